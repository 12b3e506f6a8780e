-- The whole print: which bytes are printed for which input.
use Rattle.std.specs.Prelude.{ℕ, Bool, cond, ◌&&◌, List, [], ◌∷◌, ◌++◌, take, replicate, ℤ, pos, Some, None, Ok, Err, codes, Option, Result, ◌==◌, refl}
use Rattle.terms.specs.declared.fault.NoticeFault.TheVariants.{AgainstRules}
use Rattle.terms.specs.declared.notice.Notice.{Notice}
use Rattle.terms.specs.declared.notice.NoticeFields.{NoticeFields}
use Rattle.terms.specs.declared.price.Price.{Price}
use Rattle.terms.specs.declared.rate.Rate.{Rate}
use Rattle.terms.specs.Arrival.{in_arrival_order}
use Rattle.terms.specs.Notices.{first_notice}
use Rattle.terms.specs.Prices.{price_number, price_no_worse, read_price}
use Rattle.terms.specs.ProRata.{pro_rata}
use Rattle.terms.specs.Rates.{rate_number, rate_no_worse, read_rate}
use Rattle.award.specs.declared.row.Row.{Row}
pub use Rattle.award.specs.Rows.{blank_row}
use Rattle.book.specs.Sheets.{opened}
use Rattle.wire.specs.declared.call.Call.TheVariants.{Opening}
use Rattle.wire.specs.declared.fault.ReadFault.{ReadFault}
use Rattle.wire.specs.declared.message.Message.{Message}
use Rattle.wire.specs.Reading.{reading}
use Rattle.wire.specs.Reads.{bytes_passed, messages_passed}
use Rattle.print.specs.declared.refusal.Refusal.{Refusal}
use Rattle.print.specs.Lines.{refusal_line, no_act_line}
use Rattle.print.specs.Texts.{texts}
use Rattle.cabinet.specs.declared.fault.LowerFault.TheVariants as lower
use Rattle.cabinet.specs.declared.fault.SessionFault.{SessionFault}
use Rattle.cabinet.specs.Sessions.{fields_of, read_refusal, opened_by, noted_by}
use Rattle.cabinet.specs.Attended.{refusal_of, refusals_from, book_from}
use Rattle.cabinet.specs.Acts.{act_print}

-- the refusals, and that there is no act
abbrev pub without_act : List Refusal → List ℕ
without_act refusals = texts refusal_line refusals ++ no_act_line

-- A sale with this kind of quote and this sharing rule: their codes, the kind's word, and the rows of the book.
module _ {Q : Type 0} (number : Q → ℤ) (read : ℤ → Option Q) (no_worse : Q → Q → Bool) (share : List ℕ → ℕ → List ℕ) (kind rule : ℕ) (word : List ℕ) (rows : List (Row Q)) (bytes : List ℕ) where
  -- the session behind the notice: a line for each refusal, then the act, or that there is none
  abbrev pub session_print : Notice → ℕ → ℕ → List ℕ
  session_print notice ordinal place =
      texts refusal_line (refusals_from number read no_worse share 1_024 1_024 bytes 8_192 (opened notice rows) ordinal place)
      ++ act_print number read no_worse word (book_from number read no_worse share 1_024 1_024 bytes 8_192 (opened notice rows) ordinal place)

  -- what follows the notice call: the session, if the notice is taken
  abbrev pub sale_by : Result (Option Message) ReadFault → Result (Option (Unit {0})) SessionFault → List ℕ
  sale_by seen (Ok None) = no_act_line
  sale_by seen (Ok (Some u)) = session_print (noted_by kind rule seen first_notice) (messages_passed seen) (bytes_passed seen)
  sale_by seen (Err f) = without_act (refusal_of f ∷ [])

  -- the print of a sale
  abbrev pub sale_print : List ℕ
  sale_print = sale_by (reading Opening bytes) (opened_by kind rule 0 0 (reading Opening bytes))

-- a rate and a price for blank rows
abbrev pub lowest_rate : Rate
lowest_rate = record { hundredths = pos 0; within = refl }

abbrev pub lowest_price : Price
lowest_price = record { units = pos 1; within = refl }

-- 1,024 blank rows
abbrev pub blank_rows : {Q : Type 0} → Q → List (Row Q)
blank_rows q = replicate 1_024 (blank_row q)

-- a sale at rates, and one at prices
abbrev pub rate_print : (List ℕ → ℕ → List ℕ) → ℕ → List ℕ → List ℕ
rate_print share rule bytes = sale_print rate_number read_rate rate_no_worse share 1 rule (codes "RATE") (blank_rows lowest_rate) bytes

abbrev pub price_print : (List ℕ → ℕ → List ℕ) → ℕ → List ℕ → List ℕ
price_print share rule bytes = sale_print price_number read_price price_no_worse share 2 rule (codes "PRICE") (blank_rows lowest_price) bytes

-- the codes of a notice choose the kind of quote and the sharing rule; a code that none has is refused
abbrev pub print_by : List ℕ → ℕ → ℕ → List ℕ
print_by bytes kind rule =
    cond (kind == 1 && rule == 1) (rate_print pro_rata 1 bytes)
    (cond (kind == 1 && rule == 2) (rate_print in_arrival_order 2 bytes)
    (cond (kind == 2 && rule == 1) (price_print pro_rata 1 bytes)
    (cond (kind == 2 && rule == 2) (price_print in_arrival_order 2 bytes)
    (without_act (refusal_of (record { ordinal = 0; place = 0; fault = lower.Notice AgainstRules }) ∷ [])))))

abbrev pub print_fields : List ℕ → Option NoticeFields → List ℕ
print_fields bytes None = no_act_line
print_fields bytes (Some f) = print_by bytes f.quote_code f.sharing_code

-- what is printed, by what the reader makes of the first message
abbrev pub print_seen : List ℕ → Result (Option Message) ReadFault → List ℕ
print_seen bytes (Ok None) = no_act_line
print_seen bytes (Ok (Some m)) = print_fields bytes (fields_of m)
print_seen bytes (Err f) = without_act (refusal_of (read_refusal 0 0 f) ∷ [])

-- the most bytes of an input that are read
abbrev pub most_input : ℕ
most_input = 65_536

-- the whole print of an input
abbrev pub print_of : List ℕ → List ℕ
print_of input = print_seen (take most_input input) (reading Opening (take most_input input))
