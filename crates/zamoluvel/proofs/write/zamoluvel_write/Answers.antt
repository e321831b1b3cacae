use mathlib.Core.Path.{ap, ◌∙◌}
use Rattle.zamoluvel.specs.Write.{answer_code_lem, length_of}
use Rattle.writer.specs.Written.{Writes}
use Rattle.zamoluvel.proofs.write.zamoluvel_write.Goals as goal

pub returns : goal.returns
returns c = record { value = c.answer_code.ensures ∙ ap (λ (w : Writes). answer_code_lem w.answer) c.write-answer.ensures; written_after = c.length_of.ensures ∙ ap (λ (w : Writes). length_of w.answer) c.write-answer.ensures; out_after = ap (λ (w : Writes). w.out) c.write-answer.ensures }
