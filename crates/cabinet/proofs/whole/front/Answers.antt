use Rattle.std.proofs.Common.{take, ap, ◌∙◌}
use Rattle.std.proofs.lemmas.List.{take_min}
use Rattle.cabinet.specs.Prints.{most_input}
use Rattle.cabinet.proofs.whole.front.Goals as goal

pub returns : goal.returns
returns c = let xs = c.args.input.now in ap (λ n. take n xs) c.min.ensures ∙ take_min most_input xs
