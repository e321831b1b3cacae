-- The answer.
use Rattle.std.specs.Prelude.{ℕ, ◌*◌, Bool, List, length, ltb, Option, Some, None, Result, Ok, Err}
use Rattle.book.specs.Read.{pick}
use Rattle.book.specs.Book.{Decoded}
use Rattle.rules.specs.Rule.{Set}
use Rattle.rules.specs.Ends.{End, Refused, Spent, Clash, Finished, Outcome, cleared}
use Rattle.verdict.specs.Conclude.{end_of, came}
use Rattle.effect.specs.Effect.{Further, alone, further, Effect, on_finished, by_itself, followed, difference}
use Rattle.book.specs.declared.refusal.Refusal.{Refusal}
use Rattle.verdict.specs.declared.end.End.{End as Given}
use Rattle.verdict.specs.declared.end.End.TheVariants.{Refused as refused}
use Rattle.whatif.specs.declared.answer.Prospect.{Prospect}
use Rattle.saturation.specs.declared.lists.Lists.{Lists}

abbrev pub further_of : Option Given → Further
further_of None = alone
further_of (Some e) = further (end_of e)

-- the answer, the present lists at exit, and those for the difference
abbrev pub gave : Prospect → List ℕ → List ℕ → List ℕ → List ℕ → List ℕ → List ℕ → Effect
gave r ts es ps us fs qs = record { present = came r.present ts es ps; copy = further_of r.copy; types = us; edges = fs; pairs = qs }

-- the same of the present lists, and those for the difference
abbrev pub left : Prospect → Lists → Lists → Effect
left r l m = gave r l.types.now l.edges.now l.pairs.now m.types.now m.edges.now m.pairs.now

-- the answer where the present run may be refused
abbrev pub prospect : Result Prospect Refusal → Prospect
prospect (Ok r) = r
prospect (Err e) = record { present = refused e; copy = None }

-- the effect, by the present outcome, the copy and the present facts
abbrev pub effect_by : Outcome → Decoded → Set → ℕ → List ℕ → List ℕ → List ℕ → Effect
effect_by o d P budget us fs qs = on_finished o.end (by_itself o us fs qs) (followed o (difference d P budget us fs qs))

-- the difference where the copy concludes what the present run does, which ended with e: the copy clashes (x), has more pairs than its list takes, or has
-- nothing beyond it
abbrev pub stayed : Bool → End → List ℕ → List ℕ → List ℕ → Outcome
stayed x (Finished a b c) us fs qs = pick x (cleared us fs qs (Clash a b)) (pick (ltb (length qs) (2 * c)) (cleared us fs qs (Refused 11)) (cleared us fs qs (Finished 0 0 0)))
stayed x (Refused n) us fs qs = cleared us fs qs (Refused n)
stayed x Spent us fs qs = cleared us fs qs Spent
stayed x (Clash a b) us fs qs = cleared us fs qs (Clash a b)
