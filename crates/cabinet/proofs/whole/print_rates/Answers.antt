use Rattle.std.proofs.Common.{codes, ap, ◌∙◌, lit≤}
use Rattle.terms.specs.Rates.{rate_number, rate_no_worse, read_rate}
use Rattle.cabinet.specs.Prints.{blank_row, lowest_rate}
use Rattle.cabinet.proofs.Blank.{same_rows}
use Rattle.cabinet.proofs.Lowest.{rate_is}
use Rattle.cabinet.proofs.whole.print_rates.Goals as goal

pub returns : goal.returns
returns g c =
    record {
      written = same_rows rate_number read_rate rate_no_worse g.R.SharingRule.meaning 1 g.R.SharingRule.CODE (codes "RATE") c.args.bytes.now c.args.space.now c.print_sale.new.space
          c.print_sale.result 1_024 c.blank-rows.result (blank_row lowest_rate) (c.blank-rows.ensures ∙ ap blank_row (rate_is c.lowest.result c.lowest.ensures)) c.print_sale.ensures.written;
      enough = c.print_sale.ensures.enough (lit≤ tt);
    }
