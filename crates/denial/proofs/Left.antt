-- What is denied by the statements that are left.
use Prim.Native.Nat.{ℕ, ◌+◌, ◌*◌, ◌<◌, ◌≤◌}
use native.Mathlib.Omega.{arith}
use mathlib.Core.Path.{◌≡◌, refl, ap, sym, ◌∙◌}
use mathlib.Core.Bool.{Bool, true, false, ◌||◌, or-false}
use mathlib.Core.List.{List, [], ◌∷◌, ◌++◌}
use lib.ListN.{length, get_or}
use lib.Dec.{eqb}
use Rattle.book.specs.Header.{Limits}
use Rattle.book.specs.Reader.{rest}
use Rattle.book.specs.Role.{field_of_lem}
use Rattle.book.specs.Within.{RoleWithin}
use Rattle.book.specs.declared.header.Counts.{Counts}
use Rattle.book.specs.declared.role.Role.{Role}
use Rattle.book.specs.declared.statement.Statement.{Statement}
use Rattle.rows.specs.Table.{base, leads, Table}
use Rattle.rows.proofs.table.Sizes.{row_room, wide_other}
use Rattle.rules.specs.Fact.{edge, pair}
use Rattle.rules.specs.Rule.{Set, some}
use Rattle.rules.specs.Clash.{denied_by}
use Rattle.rules.specs.Spoken.{Reader, heedings}
use Rattle.rules.proofs.Facts.{edge_lt}
use Rattle.rules.proofs.Tests.{or_right}
use Rattle.tables.specs.Open.{size_of}
use Rattle.tables.proofs.Tables.{some_append}
use Rattle.said.proofs.enter.Says.{field_within}
use Rattle.rounds.specs.View.{held}
use Rattle.rounds.proofs.Facts.{edge_leads}
use Rattle.rounds.proofs.Held.{held_low, held_pair}
use Rattle.denial.specs.Denied.{denied_of}

-- a statement in front of others denies, or one of the others does
pub denied_more : (x : Statement) (xs : List Statement) (S : Set) → some (denied_of (x ∷ xs)) S ≡ (some (denied_by x.body) S || some (denied_of xs) S)
denied_more x xs S = some_append (denied_by x.body) (denied_of xs) S

module _ (s : List ℕ) (h : Counts) (r : Reader) (S : Set) where
  -- what those from `at` on deny
  abbrev pub left : ℕ → Bool
  left at = some (denied_of (heedings r (rest s h at))) S

  module _ (at next : ℕ) {x : Statement} (e : heedings r (rest s h at) ≡ x ∷ heedings r (rest s h next)) where
    step : left at ≡ (some (denied_by x.body) S || left next)
    step = ap (λ (xs : List Statement). some (denied_of xs) S) e ∙ denied_more x (heedings r (rest s h next)) S

    pub left_next : {b : Bool} → b ≡ some (denied_by x.body) S → b ≡ false → left at ≡ left next
    left_next f g = step ∙ rw (← f, g) refl

-- one behind others
or_turn : (a b c : Bool) → (a || (b || c)) ≡ ((a || b) || c)
or_turn true b c = refl
or_turn false b c = refl

pub denied_last : (xs : List Statement) (x : Statement) (S : Set) → some (denied_of (xs ++ (x ∷ []))) S ≡ (some (denied_of xs) S || some (denied_by x.body) S)
denied_last [] x S = denied_more x [] S ∙ or-false _
denied_last (y ∷ xs) x S =
    denied_more y (xs ++ (x ∷ [])) S
    ∙ (ap (λ (b : Bool). some (denied_by y.body) S || b) (denied_last xs x S)
    ∙ (or_turn (some (denied_by y.body) S) (some (denied_of xs) S) (some (denied_by x.body) S)
    ∙ ap (λ (b : Bool). b || some (denied_by x.body) S) (sym (denied_more y xs S))))

module _ (xs : List Statement) (x : Statement) (S : Set) {b : Bool} (e : b ≡ some (denied_by x.body) S) where
  pub last_denies : b ≡ true → true ≡ some (denied_of (xs ++ (x ∷ []))) S
  last_denies i = sym (denied_last xs x S ∙ or_right (some (denied_of xs) S) (some (denied_by x.body) S) (sym e ∙ i))

  pub last_quiet : {r : Bool} → b ≡ false → r ≡ some (denied_of xs) S → r ≡ some (denied_of (xs ++ (x ∷ []))) S
  last_quiet i q = q ∙ sym (denied_last xs x S ∙ rw (← e, i) (or-false _))

-- a statement that denies nothing leaves it to the others
pub quiet_next : (s : List ℕ) (h : Counts) (r : Reader) (at next : ℕ) {x : Statement} → heedings r (rest s h at) ≡ x ∷ heedings r (rest s h next) → denied_by x.body ≡ []
    → denied_of (heedings r (rest s h at)) ≡ denied_of (heedings r (rest s h next))
quiet_next s h r at next e q = ap denied_of e ∙ ap (λ (l : List ℕ). l ++ denied_of (heedings r (rest s h next))) q

-- a role's field, and its row of an individual
pub field_low : (h : Counts) (r : Role) → RoleWithin h r → field_of_lem r < (size_of h).fields
field_low h r w = omega (arith, field_within h r w)

pub led_room : (h : Counts) {t : List ℕ} → Table (size_of h) t → (r : Role) (a : ℕ) → RoleWithin h r → a < h.individuals → (base (size_of h) (field_of_lem r) + a) * 8 + 8 ≤ length t
led_room h k r a w l =
    let f = field_within h r w in
    row_room k (field_of_lem r) a (field_low h r w) (rw (wide_other (size_of h) (field_of_lem r) (λ q. omega arith)) l)

-- the facts of a table with labels
module _ (h : Counts) (top : Limits h) {t : List ℕ} (k : Table (size_of h) t) (K : List ℕ) where
  pub edge_there : (r : Role) (a b : ℕ) {x : Bool} → RoleWithin h r → a < h.individuals → b < h.individuals → x ≡ leads (size_of h) t (field_of_lem r) a b → x ≡ held (size_of h) K t (edge r a b)
  edge_there r a b w i j e =
      let l = edge_lt r a b (omega (arith, top.roles_top)) (omega (arith, top.individuals_top)) (omega (arith, top.individuals_top)) in
      e ∙ sym (held_low (size_of h) K t (edge r a b) (omega arith) ∙ edge_leads k r a b (omega arith) i j)

  pub pair_there : (a b : ℕ) {x : Bool} → a < h.individuals → b < h.individuals → x ≡ eqb (get_or K a 0) (get_or K b 0) → x ≡ (held (size_of h) K t (pair a b) || false)
  pair_there a b i j e = e ∙ sym (or-false _ ∙ held_pair (size_of h) K top.individuals_top t a b i j)
