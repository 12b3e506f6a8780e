use Rattle.std.proofs.Common.{codes, ap, ◌∙◌, lit≤}
use Rattle.terms.specs.Prices.{price_number, price_no_worse, read_price}
use Rattle.cabinet.specs.Prints.{blank_row, lowest_price}
use Rattle.cabinet.proofs.Blank.{same_rows}
use Rattle.cabinet.proofs.Lowest.{price_is}
use Rattle.cabinet.proofs.whole.print_prices.Goals as goal

pub returns : goal.returns
returns g c =
    record {
      written = same_rows price_number read_price price_no_worse g.R.SharingRule.meaning 2 g.R.SharingRule.CODE (codes "PRICE") c.args.bytes.now c.args.space.now c.print_sale.new.space
          c.print_sale.result 1_024 c.blank-rows.result (blank_row lowest_price) (c.blank-rows.ensures ∙ ap blank_row (price_is c.lowest.result c.lowest.ensures)) c.print_sale.ensures.written;
      enough = c.print_sale.ensures.enough (lit≤ tt);
    }
