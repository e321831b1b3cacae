-- The answer to "is this individual of that concept?", and what the run leaves in the lists.
use Rattle.std.specs.Prelude.{ℕ, Bool, false, ◌&&◌, List, ltb}
use Rattle.book.specs.Read.{pick}
use Rattle.book.specs.Book.{Book, Decoded, refused, accepted, decode}
use Rattle.rules.specs.Ends.{End, Refused, Spent, Clash, Finished, Outcome, on_decoded, outcome_of}
use Rattle.rules.specs.Spoken.{Reader, decode_for}
use Rattle.member.specs.Shown.{shown_in}

-- shown or not, with the counts of the finished run; or the end of a run that does not finish, a refusal among them
pub data Answer : Type 0 where
  Shown : ℕ → ℕ → ℕ → Answer
  NotShown : ℕ → ℕ → ℕ → Answer
  Ended : End → Answer

-- the answer, and the three lists at exit
pub record Answered : Type 0 where
  pub answer : Answer
  pub types : List ℕ
  pub edges : List ℕ
  pub pairs : List ℕ

-- the answer of a run that ends so, where b says whether the concept is shown
abbrev pub judged : Bool → End → Answer
judged b (Refused k) = Ended (Refused k)
judged b Spent = Ended Spent
judged b (Clash t e) = Ended (Clash t e)
judged b (Finished t e p) = pick b (Shown t e p) (NotShown t e p)

-- and the lists are those of the run
abbrev pub answered : Bool → Outcome → Answered
answered b o = record { answer = judged b o.end; types = o.types; edges = o.edges; pairs = o.pairs }

-- the individual and the concept are the book's own
abbrev pub asked : ℕ → ℕ → Book → Bool
asked i c B = ltb i B.counts.individuals && ltb c B.counts.concepts

-- refusal 17 stands behind those of what was read, and before the run
abbrev pub questioned : ℕ → ℕ → Decoded → Decoded
questioned i c (refused n) = refused n
questioned i c (accepted B) = pick (asked i c B) (accepted B) (refused 17)

-- the answer for what was read, a budget, three lists, the individual i and the concept c
unfoldable pub member_of : Decoded → ℕ → List ℕ → List ℕ → List ℕ → ℕ → ℕ → Answered
member_of d budget ts es ps i c = answered (on_decoded d (λ n. false) (λ B. shown_in B i c)) (outcome_of (questioned i c d) budget ts es ps)

-- THE ANSWER for bytes s
abbrev pub member : List ℕ → ℕ → List ℕ → List ℕ → List ℕ → ℕ → ℕ → Answered
member s = member_of (decode s)

-- and for a run that names a reader or none: the book is the one spoken of
abbrev pub member_for : Reader → List ℕ → ℕ → List ℕ → List ℕ → List ℕ → ℕ → ℕ → Answered
member_for r s = member_of (decode_for r s)
