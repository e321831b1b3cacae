-- Rows of one list without those of another.
use Rattle.std.specs.Prelude.{ℕ, ◌+◌, ◌<◌, ◌≡◌, Bool, true, false, ◌&&◌, List, [], ◌∷◌, ◌++◌, ◌⊎◌, length, take, drop, eqb}
use Rattle.book.specs.Read.{pick}
use Rattle.book.specs.Within.{Every}
use Rattle.rules.specs.Fact.{Two, Three}
use Rattle.rules.specs.Lists.{entries2, entries3, filled}
use Rattle.rules.specs.Ends.{Finished, Outcome}
use Rattle.saturation.specs.declared.lists.Lists.{Lists}
use Rattle.verdict.specs.declared.end.End.{End as Answer}
use Rattle.verdict.specs.declared.end.End.TheVariants.{Finished as finished}

-- whether two rows have the same entries
abbrev pub alike : List ℕ → List ℕ → Bool
alike [] [] = true
alike [] (b ∷ y) = false
alike (a ∷ x) [] = false
alike (a ∷ x) (b ∷ y) = eqb a b && alike x y

-- The members of the first list that the second does not have, where the second is a part of the first and in its order: each is passed over
-- where the second comes to it.
abbrev pub minus : {A : Type 0} → (A → A → Bool) → List A → List A → List A
minus e [] ys = []
minus e (x ∷ xs) [] = x ∷ minus e xs []
minus e (x ∷ xs) (y ∷ ys) = pick (e x y) (minus e xs ys) (x ∷ minus e xs (y ∷ ys))

-- the entries of rows, one after the other
abbrev pub flat : List (List ℕ) → List ℕ
flat [] = []
flat (x ∷ xs) = x ++ flat xs

-- the rows of types and pairs, and of edges
abbrev pub rows2 : List Two → List (List ℕ)
rows2 [] = []
rows2 (x ∷ xs) = (x.one ∷ x.other ∷ []) ∷ rows2 xs

abbrev pub rows3 : List Three → List (List ℕ)
rows3 [] = []
rows3 (x ∷ xs) = (x.role ∷ x.one ∷ x.other ∷ []) ∷ rows3 xs

-- the first n entries of l are the rows xs, of w entries each
pub record Standing (w n : ℕ) (l : List ℕ) (xs : List (List ℕ)) : Type 0 where
  pub rows : Every (λ x. length x ≡ w) xs
  pub size : n ≡ length (flat xs)
  pub front : l ≡ flat xs ++ drop n l

-- the w entries from i on stand from k on too, and what is behind them stays
pub record Moved (l : List ℕ) (i k w : ℕ) (m : List ℕ) : Type 0 where
  pub len : length m ≡ length l
  pub front : take (k + w) m ≡ take k l ++ take w (drop i l)
  pub behind : drop (i + w) m ≡ drop (i + w) l

-- the row at i of l was passed over, as b has it at j; or kept, as b does not, and now stands from k on
pub record Passed (l : List ℕ) (i : ℕ) (b : List ℕ) (j m k w : ℕ) (l' : List ℕ) (j' k' : ℕ) : Type 0 where
  pub low : j < m
  pub same : take w (drop i l) ≡ take w (drop j b)
  pub stays : l' ≡ l
  pub next : j' ≡ j + w
  pub here : k' ≡ k

pub record Kept (l : List ℕ) (i : ℕ) (b : List ℕ) (j m k w : ℕ) (l' : List ℕ) (j' k' : ℕ) : Type 0 where
  pub new : j < m → take w (drop i l) ≡ take w (drop j b) → ⊥
  pub moved : Moved l i k w l'
  pub next : k' ≡ k + w
  pub here : j' ≡ j

abbrev pub Went : List ℕ → ℕ → List ℕ → ℕ → ℕ → ℕ → ℕ → List ℕ → ℕ → ℕ → Type 0
Went l i b j m k w l' j' k' = Passed l i b j m k w l' j' k' ⊎ Kept l i b j m k w l' j' k'

-- ---- what runs listed

-- a run that finished listed T, E and P
pub record Filled (r : Answer) (ts es ps : List ℕ) (T : List Two) (E : List Three) (P : List Two) : Type 0 where
  pub end : r ≡ finished (length T) (length E) (length P)
  pub types : ts ≡ filled (entries2 T) (length ts)
  pub edges : es ≡ filled (entries3 E) (length es)
  pub pairs : ps ≡ filled (entries2 P) (length ps)

-- into these lists
abbrev pub Listed : Answer → Lists → List Two → List Three → List Two → Type 0
Listed r l T E P = Filled r l.types.now l.edges.now l.pairs.now T E P

-- by their rows
abbrev pub same2 : Two → Two → Bool
same2 x y = alike (x.one ∷ x.other ∷ []) (y.one ∷ y.other ∷ [])

abbrev pub same3 : Three → Three → Bool
same3 x y = alike (x.role ∷ x.one ∷ x.other ∷ []) (y.role ∷ y.one ∷ y.other ∷ [])

-- U, F and Q without T, E and P, counted and listed
abbrev pub lessened : List Two → List Three → List Two → List Two → List Three → List Two → List ℕ → List ℕ → List ℕ → Outcome
lessened T E P U F Q ts es ps =
    record {
      end = Finished (length (minus same2 U T)) (length (minus same3 F E)) (length (minus same2 Q P));
      types = filled (entries2 (minus same2 U T)) (length ts);
      edges = filled (entries3 (minus same3 F E)) (length es);
      pairs = filled (entries2 (minus same2 Q P)) (length ps);
    }
