-- The number of each refusal.
use Rattle.std.specs.Prelude.{ℕ}
use Rattle.terms.specs.declared.fault.QuoteFault.{QuoteFault}
use Rattle.terms.specs.declared.fault.QuoteFault.TheVariants.{OutOfRange}
use Rattle.terms.specs.declared.fault.ShareFault.{ShareFault}
use Rattle.terms.specs.declared.fault.ShareFault.TheVariants.{Lots, ShortTable, ManyDemands}
use Rattle.terms.specs.declared.fault.NoticeFault.{NoticeFault}
use Rattle.terms.specs.declared.fault.NoticeFault.TheVariants.{AgainstRules}

-- 9: a number outside the kind's range
abbrev pub quote_fault_number : QuoteFault → ℕ
quote_fault_number OutOfRange = 9

-- 10: a demand or the balance out of range; 16: the table shorter than the demands; 18: too many demands
abbrev pub share_fault_number : ShareFault → ℕ
share_fault_number Lots = 10
share_fault_number ShortTable = 16
share_fault_number ManyDemands = 18

-- 17: a notice against its rules
abbrev pub notice_fault_number : NoticeFault → ℕ
notice_fault_number AgainstRules = 17
