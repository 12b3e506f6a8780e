-- The number of each refusal.
use Rattle.std.specs.Prelude.{ℕ}
use Rattle.book.specs.declared.fault.BookFault.{BookFault}
use Rattle.book.specs.declared.fault.BookFault.TheVariants.{NotInThisState, OtherSeries, HouseOutOfRange, QuoteOutOfRange, LotsOutOfRange, NoSuchBid, OtherHouse, SecondOutOfRange, NoRowLeft, NoPlaceLeft, ShortTable}

abbrev pub book_fault_number : BookFault → ℕ
book_fault_number NotInThisState = 6
book_fault_number OtherSeries = 7
book_fault_number HouseOutOfRange = 8
book_fault_number QuoteOutOfRange = 9
book_fault_number LotsOutOfRange = 10
book_fault_number NoSuchBid = 11
book_fault_number OtherHouse = 12
book_fault_number SecondOutOfRange = 13
book_fault_number NoRowLeft = 14
book_fault_number NoPlaceLeft = 15
book_fault_number ShortTable = 16
