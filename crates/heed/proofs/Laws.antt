-- The laws of the step over the statements that count.
use Prim.Native.Nat.{ℕ, ◌≤◌, ◌<◌}
use native.Mathlib.Omega.{arith}
use mathlib.Core.Path.{◌≡◌, refl, ap, sym, ◌∙◌, subst}
use mathlib.Core.Bool.{Bool, true, false, false≢true}
use mathlib.Core.List.{List, [], ◌∷◌, ◌++◌}
use lib.ListN.{length}
use Rattle.std.specs.Prelude.{Option, Some, None, is_some, Err}
use Rattle.std.proofs.lemmas.Option.{none-some, some_pair_parts}
use Rattle.book.specs.Reader.{turn_at_lem, on_turn, rest}
use Rattle.book.specs.Within.{StatementWithin}
use Rattle.book.specs.Book.{Book, accepted, decode, concept_offset}
use Rattle.book.specs.declared.header.Counts.{Counts}
use Rattle.book.specs.declared.statement.Statement.{Statement}
use Rattle.book.proofs.Parsing.{Goes}
use Rattle.book.proofs.Accepted.{accepted_rest}
use Rattle.book.proofs.reader.Laws.{turn_goes, turn_within, rest_next, rest_end, rest_behind}
use Rattle.rules.specs.Lists.{only}
use Rattle.rules.specs.Spoken.{Reader, heeded, heedings, spoken, spoken_of, decode_for}
use Rattle.rules.proofs.Spoken.{heedings_next, decode_read, decode_14, decode_15}
use Rattle.heed.specs.declared.names.Reader.{Reader as Named}
use Rattle.heed.specs.declared.names.Names.{Names}
use Rattle.book.specs.declared.refusal.Refusal.TheVariants.{UnknownReader, WrongTable}
use Rattle.heed.specs.Names.{day_of, reader_of, Ready, Fault, Step}

none_left : (r : Reader) → heedings r [] ≡ []
unfolding heedings
none_left r = refl

no_next : {A : Type 0} (x : Statement) (next : ℕ) → ◌≡◌ {A = Option (Statement × ℕ)} None (Some (x, next)) → A
no_next x next q = absurd (none-some (x, next) q)

module _ (s : List ℕ) (h : Counts) (r : Reader) (at : ℕ) where
  -- where a loop has come to: nothing that counts was passed over
  abbrev pub Came : ℕ → Type 0
  Came here = (heedings r (rest s h at) ≡ heedings r (rest s h here)) × (at ≤ here)

  pub came_start : Came at
  came_start = (refl, omega arith)

  module _ (here : ℕ) (i : Came here) where
    ends : rest s h here ≡ [] → Step s h r at None
    ends e =
        record {
          left = i.0 ∙ (ap (heedings r) e ∙ none_left r);
          goes = λ x next q. no_next x next q;
          within = λ x next q. no_next x next q;
        }

    pub came_end : None ≡ turn_at_lem s h here → Step s h r at None
    came_end e = ends (rest_end s h here (sym e))

    pub came_behind : length s ≤ here → Step s h r at None
    came_behind l = ends (rest_behind s h here l)

    module _ (x : Statement) (next : ℕ) (e : ◌≡◌ {A = Option (Statement × ℕ)} (Some (x, next)) (turn_at_lem s h here)) where
      pub came_within : StatementWithin h x
      came_within = turn_within s h here x next (sym e)

      pub came_goes : Goes 3 s here next
      came_goes = turn_goes s h here x next (sym e)

      one : (b : Bool) → heeded r x ≡ b → heedings r (rest s h here) ≡ only b x ++ heedings r (rest s h next)
      one b q = ap (heedings r) (rest_next s h here x next (sym e)) ∙ (heedings_next r x (rest s h next) ∙ ap (λ (c : Bool). only c x ++ heedings r (rest s h next)) q)

      pub came_next : (b : Bool) → b ≡ heeded r x → b ≡ true → Step s h r at (Some (x, next))
      came_next b q p =
          record {
            left = i.0 ∙ one true (sym q ∙ p);
            goes = λ y m z. let same = some_pair_parts x y next m z in (omega (arith, came_goes.0, i.1, same.1), omega (arith, came_goes.1, same.1));
            within = λ y m z. subst (StatementWithin h) (some_pair_parts x y next m z).0 came_within;
          }

      pub came_over : (b : Bool) → b ≡ heeded r x → b ≡ false → Came next
      came_over b q p = (i.0 ∙ one false (sym q ∙ p), omega (arith, came_goes.0, i.1))

  -- where every statement counts, each turn of the reader is a step
  pub step_all : ((x : Statement) → heeded r x ≡ true) → (t : Option (Statement × ℕ)) → t ≡ turn_at_lem s h at → Step s h r at t
  step_all all (Some (x, next)) e = came_next at came_start x next e true (sym (all x)) refl
  step_all all None e = came_end at came_start e

-- where no one is named and no day, every statement counts
none_of : {A : Type 0} (o : Option A) → false ≡ is_some o → o ≡ None
none_of None e = refl
none_of (Some a) e = absurd (false≢true e)

pub heeded_all : (n : Names) → false ≡ is_some n.reader → false ≡ is_some n.day → (x : Statement) → heeded (reader_of n) x ≡ true
unfolding heeded
heeded_all n e f x = rw (none_of n.reader e, none_of n.day f) refl

-- the two laws of a loop over the statements that count
module _ (s : List ℕ) (h : Counts) (r : Reader) (at : ℕ) (t : Option (Statement × ℕ)) (k : Step s h r at t) where
  pub heeded_next : (x : Statement) (next : ℕ) → t ≡ Some (x, next) → heedings r (rest s h at) ≡ x ∷ heedings r (rest s h next)
  heeded_next x next e = subst (λ (u : Option (Statement × ℕ)). heedings r (rest s h at) ≡ on_turn u [] (λ y m. y ∷ heedings r (rest s h m))) e k.left

  pub heeded_end : t ≡ None → heedings r (rest s h at) ≡ []
  heeded_end e = subst (λ (u : Option (Statement × ℕ)). heedings r (rest s h at) ≡ on_turn u [] (λ y m. y ∷ heedings r (rest s h m))) e k.left

-- from the statements' offset on, the steps hand out the statements of the book spoken of, in order
pub heeded_rest : (r : Reader) (s : List ℕ) (B : Book) → decode s ≡ accepted B → heedings r (rest s B.counts (concept_offset s B.counts.concepts)) ≡ (spoken r B).statements
heeded_rest r s B book = ap (heedings r) (accepted_rest s B book)

-- a run that nothing is wrong with works on the book spoken of, or has the book's own refusal
pub ready_decoded : (n : Names) → Ready n → (s : List ℕ) → decode_for (reader_of n) s ≡ spoken_of (reader_of n) (decode s)
ready_decoded n ready s = go n.reader refl
  where
    go : (r : Option Named) → n.reader ≡ r → decode_for (reader_of n) s ≡ spoken_of (reader_of n) (decode s)
    go (Some r) e = let k = ready r e in decode_read s (reader_of n) (rw e (omega (arith, k.0), k.1))
    go None e = decode_read s (reader_of n) (rw e tt)

-- the two refusals of what a run names
module _ (n : Names) (r : Named) (e : n.reader ≡ Some r) where
  pub fault_14 : 31 < r.number → Fault n (Err UnknownReader)
  fault_14 l = record { none = λ q. grind arith; refuses = λ f q s. let z : f ≡ UnknownReader = grind arith in rw (e, z) (decode_14 s r.number r.table.now (day_of n) l) }

  pub fault_15 : r.number ≤ 31 → (length r.table.now ≡ 1024 → ⊥) → Fault n (Err WrongTable)
  fault_15 l m = record { none = λ q. grind arith; refuses = λ f q s. let z : f ≡ WrongTable = grind arith in rw (e, z) (decode_15 s r.number r.table.now (day_of n) l m) }
