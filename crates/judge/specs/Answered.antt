-- What a function's answer and the lists at exit are.
use Rattle.std.specs.Prelude.{ℕ, List, Result, Ok, Err}
use Rattle.book.specs.declared.refusal.Refusal.{Refusal}
use Rattle.verdict.specs.declared.end.End.TheVariants.{Refused as refused}
use Rattle.verdict.specs.Conclude.{end_of}
use Rattle.member.specs.Answer.{Answer, Shown, NotShown, Ended, Answered}
use Rattle.judge.specs.declared.answer.Answer.{Answer as Given}
use Rattle.judge.specs.declared.answer.Answer.TheVariants.{Shown as shown, NotShown as notShown, Ended as ended}

-- the answer that is given
abbrev pub answer_of : Given → Answer
answer_of (shown t e p) = Shown t e p
answer_of (notShown t e p) = NotShown t e p
answer_of (ended x) = Ended (end_of x)

-- the answer, and the type, edge and pair list at exit
abbrev pub gave : Given → List ℕ → List ℕ → List ℕ → Answered
gave r ts es ps = record { answer = answer_of r; types = ts; edges = es; pairs = ps }

-- the answer of a question that may be refused
abbrev pub answered : Result Given Refusal → Given
answered (Ok r) = r
answered (Err e) = ended (refused e)
