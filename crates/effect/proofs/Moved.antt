-- A statement is read alike wherever its record stands, and refused alike: bytes in front move what is read, a refusal too.
use Prim.Native.Nat.{ℕ, zero, suc, ◌+◌, ◌*◌, ◌/◌, ◌%◌, ◌≤◌}
use native.Mathlib.Omega.{arith}
use mathlib.Core.Path.{◌≡◌, refl, sym, ap, ap₂, ◌∙◌}
use mathlib.Core.Bool.{Bool, true, false, not}
use mathlib.Core.List.{List, ◌++◌}
use lib.ListN.{length, get_or, set, length-append}
use lib.Seq.{get_or-append-add}
use lib.Dec.{leb, ltb, eqb}
use borrow.Author.Tests.{leb-true, le-leb}
use Rattle.book.specs.declared.header.Counts.{Counts}
use Rattle.book.specs.Table.{Start}
use Rattle.book.specs.Read.{pick, Read, value, refusal, onward, Parser, give, unless}
use Rattle.book.specs.Field.{whole, number_at_lem, byte, two_bytes_lem, field, fields_from, fields}
use Rattle.book.specs.Table.{statement_allows_lem}
use Rattle.book.specs.Statement.{statement_start_lem, statement_limits, unmarked, statement_of_lem, statement_end_lem, statement_rest_lem, statement}
use Rattle.book.proofs.Local.{Local, local_give, local_then, local_test, local_byte, local_two, local_fields}

-- what is read k bytes further on
abbrev pub moved : {A : Type 0} → ℕ → Read A → Read A
moved k (value a next) = value a (k + next)
moved k (refusal n) = refusal n

abbrev Moves : {A : Type 0} → Parser A → Type 0
Moves p = (pre t : List ℕ) (at : ℕ) → p (pre ++ t) (length pre + at) ≡ moved (length pre) (p t at)

moves_then : {A B : Type 0} (p : Parser A) (f : A → Parser B) → Moves p → ((a : A) → Moves (f a)) → Moves (λ s at. onward (p s at) λ a next. f a s next)
moves_then {A} p f mp mf pre t at = ap (λ (r : Read A). onward r λ a next. f a (pre ++ t) next) (mp pre t at) ∙ go (p t at)
  where
    go : (r : Read A) → onward (moved (length pre) r) (λ a next. f a (pre ++ t) next) ≡ moved (length pre) (onward r λ a next. f a t next)
    go (value a next) = mf a pre t next
    go (refusal n) = refl

moves_test : {B : Type 0} (b : Bool) (n : ℕ) (q : Parser B) → Moves q → Moves (λ s at. onward (unless b n s at) λ u next. q s next)
moves_test true n q m = m
moves_test false n q m = λ pre t at. refl

moves_pick : {A : Type 0} (b : Bool) (p q : Parser A) → Moves p → Moves q → Moves (pick b p q)
moves_pick true p q f g = f
moves_pick false p q f g = g

-- complete bytes, tested at either end
pub leb_same : (a b c d : ℕ) → (a ≤ b → c ≤ d) → (c ≤ d → a ≤ b) → leb a b ≡ leb c d
leb_same a b c d f g = go (leb a b) refl
  where
    go : (x : Bool) → leb a b ≡ x → x ≡ leb c d
    go true e = sym (le-leb c d (f (leb-true a b e)))
    go false e = sym (both (leb c d) refl)
      where
        both : (y : Bool) → leb c d ≡ y → y ≡ false
        both true q = sym (le-leb a b (g (leb-true c d q))) ∙ e
        both false q = refl

moves_whole : (n : ℕ) (f : List ℕ → ℕ → ℕ) → ((pre t : List ℕ) (at : ℕ) → f (pre ++ t) (length pre + at) ≡ f t at) → Moves (λ s at. whole n (f s at) s at)
moves_whole n f same pre t at =
    let len = length-append pre t in
    ap (λ (b : Bool). pick b (value (f (pre ++ t) (length pre + at)) (length pre + at + n)) (refusal 4)) (leb_same (length pre + at + n) (length (pre ++ t)) (at + n) (length t) (λ l. omega (arith, len)) (λ l. omega (arith, len)))
    ∙ go (leb (at + n) (length t))
  where
    go : (b : Bool) → pick b (value (f (pre ++ t) (length pre + at)) (length pre + at + n)) (refusal 4) ≡ moved (length pre) (pick b (value (f t at) (at + n)) (refusal 4))
    go true = let z : length pre + at + n ≡ length pre + (at + n) = omega arith in ap₂ value (same pre t at) z
    go false = refl

number_moves : (pre t : List ℕ) (at : ℕ) → number_at_lem (pre ++ t) (length pre + at) ≡ number_at_lem t at
number_moves pre t at =
    let z : length pre + at + 1 ≡ length pre + (at + 1) = omega arith in
    ap₂ (λ (a b : ℕ). a + 256 * b) (get_or-append-add pre t at 0) (rw z (get_or-append-add pre t (at + 1) 0))

moves_byte : Moves byte
unfolding byte
moves_byte = moves_whole 1 (λ s at. get_or s at 0) (λ pre t at. get_or-append-add pre t at 0)

moves_two : Moves two_bytes_lem
unfolding two_bytes_lem
moves_two = moves_whole 2 number_at_lem number_moves

moves_field : (bit limit absent over : ℕ) → Moves (field bit limit absent over)
unfolding field
moves_field bit limit absent over =
    moves_pick (eqb bit 0) (give absent) _ (λ pre t at. refl)
    (moves_then two_bytes_lem _ moves_two λ v. moves_test (not (eqb v absent)) 5 _ (moves_test (ltb v limit) over (give v) (λ pre t at. refl)))

moves_fields : (limits : List ℕ) (over n k map : ℕ) (values : List ℕ) → Moves (fields_from limits over n k map values)
unfolding fields_from
moves_fields limits over zero k map values = λ pre t at. refl
moves_fields limits over (suc n) k map values =
    moves_then (field (map % 2) (get_or limits k 0) (get_or values k 0) over) _
    (moves_field (map % 2) (get_or limits k 0) (get_or values k 0) over)
    (λ v. moves_fields limits over n (k + 1) (map / 2) (set values k v))

moves_start : Moves statement_start_lem
unfolding statement_start_lem
moves_start =
    moves_then byte _ moves_byte λ kind.
    moves_test (not (eqb kind 0)) 7 _ (moves_test (ltb kind 17) 7 _
    (moves_then two_bytes_lem _ moves_two λ map.
    moves_test (ltb map 2048) 8 _ (moves_test (statement_allows_lem kind (map % 256)) 8 _ (λ pre t at. refl))))

moves_end : (x : Start) (v : List ℕ) → Moves (statement_end_lem x v)
unfolding statement_end_lem
moves_end x v = moves_test (leb (get_or v 9 0) (get_or v 10 0)) 16 _ (λ pre t at. refl)

pub moves_statement : (h : Counts) (pre t : List ℕ) (at : ℕ) → statement h (pre ++ t) (length pre + at) ≡ moved (length pre) (statement h t at)
unfolding statement statement_rest_lem fields
moves_statement h =
    moves_then statement_start_lem _ moves_start λ x.
    moves_then (fields_from (statement_limits h) 9 16 0 x.map unmarked) (statement_end_lem x) (moves_fields (statement_limits h) 9 16 0 x.map unmarked) (moves_end x)

-- and a statement depends on its own bytes alone, whatever stands behind them
local_start : Local statement_start_lem
unfolding statement_start_lem
local_start =
    local_then byte _ local_byte λ kind.
    local_test (not (eqb kind 0)) 7 _ (local_test (ltb kind 17) 7 _
    (local_then two_bytes_lem _ local_two λ map.
    local_test (ltb map 2048) 8 _ (local_test (statement_allows_lem kind (map % 256)) 8 _ (local_give _))))

local_end : (x : Start) (v : List ℕ) → Local (statement_end_lem x v)
unfolding statement_end_lem
local_end x v = local_test (leb (get_or v 9 0) (get_or v 10 0)) 16 _ (local_give (statement_of_lem x v))

pub local_statement : (h : Counts) → Local (statement h)
unfolding statement statement_rest_lem
local_statement h = local_then statement_start_lem _ local_start λ x. local_then (fields x.map (statement_limits h) unmarked 9) (statement_end_lem x) (local_fields x.map (statement_limits h) unmarked 9) (local_end x)
