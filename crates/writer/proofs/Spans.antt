-- Where records stand: one list of spans, as the lists of their places and their sizes.
use Prim.Native.Nat.{ℕ, zero, suc, ◌+◌, ◌-◌, ◌*◌, ◌≤◌, ◌<◌}
use native.Mathlib.Omega.{arith}
use mathlib.Core.Path.{◌≡◌, refl, sym, ap, ◌∙◌, subst}
use mathlib.Core.List.{List, ◌∷◌}
use lib.ListN.{length, get_or, set, take, drop, replicate, length-drop}
use Rattle.std.proofs.Math.ListN.{get_or-map}
use Rattle.std.proofs.lemmas.List.{map-set, length-map, get_or-take, length-take-le}
use lib.Seq.{slice}
use Rattle.writer.proofs.Over.{slice_take}
use Rattle.writer.proofs.Entered as entered
use Rattle.book.specs.declared.header.Counts.{Counts}
use Rattle.book.specs.declared.statement.Statement.{Statement}
use Rattle.writer.specs.declared.record.Span.{Span}
use Rattle.writer.specs.Record.{ats, sizes, Alike}
use Rattle.writer.specs.Tree.{Match, Tree, Room}
use Rattle.writer.specs.Gathering.{Records}
use Rattle.writer.specs.Lay.{Stand}

abbrev pub blank : Span
blank = record { at = 0; size = 0 }

pub ats_length : (l : List Span) → length (ats l) ≡ length l
ats_length l = length-map l (λ (r : Span). r.at)

pub sizes_length : (l : List Span) → length (sizes l) ≡ length l
sizes_length l = length-map l (λ (r : Span). r.size)

pub ats_at : (l : List Span) (k : ℕ) → get_or (ats l) k 0 ≡ (get_or l k blank).at
ats_at l k = get_or-map (λ (r : Span). r.at) l k blank

pub sizes_at : (l : List Span) (k : ℕ) → get_or (sizes l) k 0 ≡ (get_or l k blank).size
sizes_at l k = get_or-map (λ (r : Span). r.size) l k blank

pub ats_set : (l : List Span) (k : ℕ) (x : Span) → ats (set l k x) ≡ set (ats l) k x.at
ats_set l k x = map-set (λ (r : Span). r.at) l k x

pub sizes_set : (l : List Span) (k : ℕ) (x : Span) → sizes (set l k x) ≡ set (sizes l) k x.size
sizes_set l k x = map-set (λ (r : Span). r.size) l k x

-- record k is the one that is looked for
pub span_match : (s : List ℕ) (l : List Span) (k at n : ℕ) → ((get_or l k blank).size ≡ n) × Alike s (get_or l k blank).at at n → Match s (ats l) (sizes l) k at n
span_match s l k at n m = rw (ats_at l k, sizes_at l k) m

pub match_span : (s : List ℕ) (l : List Span) (k at n : ℕ) → Match s (ats l) (sizes l) k at n → ((get_or l k blank).size ≡ n) × Alike s (get_or l k blank).at at n
match_span s l k at n m = (sym (sizes_at l k) ∙ m.0, subst (λ (a : ℕ). Alike s a at n) (ats_at l k) m.1)

pub inside_span : (s : List ℕ) (l : List Span) (k : ℕ) → get_or (ats l) k 0 + get_or (sizes l) k 0 ≤ length s → (get_or l k blank).at + (get_or l k blank).size ≤ length s
inside_span s l k h = omega (arith, ats_at l k, sizes_at l k)

-- the bytes of record k
pub span_bytes : (s : List ℕ) (l : List Span) (k : ℕ) → take ((get_or l k blank).at + (get_or l k blank).size - (get_or l k blank).at) (drop (get_or l k blank).at s) ≡ slice (get_or (ats l) k 0) (get_or (ats l) k 0 + get_or (sizes l) k 0) s
span_bytes s l k =
    let x = get_or l k blank in
    let n : x.at + x.size - x.at ≡ x.size = omega arith in
    rw (ats_at l k, sizes_at l k, n) (sym (slice_take s x.at x.size))

pub span_size : (s : List ℕ) (l : List Span) (k : ℕ) → (get_or l k blank).at + (get_or l k blank).size ≤ length s → length (take ((get_or l k blank).at + (get_or l k blank).size - (get_or l k blank).at) (drop (get_or l k blank).at s)) ≡ get_or (sizes l) k 0
span_size s l k h =
    let x = get_or l k blank in
    length-take-le (x.at + x.size - x.at) (drop x.at s) (omega (arith, length-drop x.at s)) ∙ omega (arith, sizes_at l k)

-- no record yet
blank_ats : (b : ℕ) → ats (replicate b blank) ≡ replicate b 0
blank_ats zero = refl
blank_ats (suc b) = ap (λ (l : List ℕ). 0 ∷ l) (blank_ats b)

blank_sizes : (b : ℕ) → sizes (replicate b blank) ≡ replicate b 0
blank_sizes zero = refl
blank_sizes (suc b) = ap (λ (l : List ℕ). 0 ∷ l) (blank_sizes b)

pub room_blank : (s : List ℕ) (n a b : ℕ) → 16 * n ≤ a → n ≤ b → Room s n (replicate a 0) (ats (replicate b blank)) (sizes (replicate b blank))
room_blank s n a b l m = rw (blank_ats b, blank_sizes b) (entered.room_blank s n a b l m)

-- the first of them
module _ (l : List Span) (n : ℕ) (fits : n ≤ length l) where
  front_length : length (take n l) ≡ n
  front_length = length-take-le n l fits

  front_ats : (k : ℕ) → k < n → get_or (ats (take n l)) k 0 ≡ get_or (ats l) k 0
  front_ats k low = ats_at (take n l) k ∙ (ap (λ (r : Span). r.at) (get_or-take n l k blank low) ∙ sym (ats_at l k))

  front_sizes : (k : ℕ) → k < n → get_or (sizes (take n l)) k 0 ≡ get_or (sizes l) k 0
  front_sizes k low = sizes_at (take n l) k ∙ (ap (λ (r : Span). r.size) (get_or-take n l k blank low) ∙ sym (sizes_at l k))

  pub records_front : (s : List ℕ) (h : Counts) (xs : List Statement) → Records s h xs n (ats l) (sizes l) → Records s h xs (length (take n l)) (ats (take n l)) (sizes (take n l))
  records_front s h xs r =
      record {
        counted = r.counted ∙ sym front_length;
        reads = λ k m. (let low : k < n = omega (arith, front_length) in let a = front_ats k low in let b = front_sizes k low in rw (a, b) (r.reads k low));
      }

  pub stand_front : (s : List ℕ) (child : List ℕ) → Tree s n child (ats l) (sizes l) → Stand s (length (take n l)) (ats (take n l)) (sizes (take n l))
  stand_front s child t =
      record {
        places = omega (arith, ats_length (take n l));
        sizes = omega (arith, sizes_length (take n l));
        inside = λ k m. (let low : k < n = omega (arith, front_length) in omega (arith, front_ats k low, front_sizes k low, t.inside k low));
      }
