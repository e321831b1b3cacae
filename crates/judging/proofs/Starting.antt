-- The laws of src/start.rt: rows that are read off the facts, and how the row of a part is mixed in.
use Prim.Native.Nat.{ℕ, suc, ◌+◌, ◌-◌, ◌*◌, ◌<◌, ◌≤◌}
use mathlib.Core.Path.{◌≡◌, refl, ap, sym, ◌∙◌, subst}
use mathlib.Core.Bool.{Bool, true, false, ◌&&◌, ◌||◌}
use mathlib.Core.List.{List}
use mathlib.Core.Logic.{⊎_elim}
use native.Mathlib.Decide.{dec_lt, ℕ_discrete}
use native.Mathlib.Omega.{arith}
use lib.ListN.{length}
use lib.Dec.{ltb}
use borrow.Author.Tests.{lt-ltb, le-ltb}
use Rattle.book.specs.Role.{field_of_lem, flipped}
use Rattle.book.specs.Within.{RoleWithin}
use Rattle.book.proofs.role.Laws.{role_of_field}
use Rattle.book.specs.declared.header.Counts.{Counts}
use Rattle.book.specs.declared.role.Role.{Role}
use Rattle.book.specs.declared.concept.Parts.{Parts}
use Rattle.book.specs.declared.concept.ConceptExpr.{ConceptExpr}
use Rattle.book.specs.declared.concept.ConceptExpr.TheVariants.{Atomic, Nominal, SelfRestriction}
use Rattle.rows.specs.Row.{has, Put, Gathered, Composed}
use Rattle.rows.specs.Table.{base, Table, Can}
use Rattle.rows.specs.Table as table
use Rattle.rows.specs.declared.table.Size.{Size}
use Rattle.rows.proofs.table.Sizes.{base_step, wide_last, wide_other}
use Rattle.rules.specs.Fact.{edge, type}
use Rattle.rules.specs.Rule.{any}
use Rattle.rules.proofs.Tests.{both_ways, and_both, and_intro, or_cases, or_left, or_right, any_some, some_any}
use Rattle.rules.proofs.Facts.{edge_flipped, flipped_id}
use Rattle.tables.specs.Open.{size_of}
use Rattle.tables.proofs.Fields.{field_below, field_flipped}
use Rattle.rounds.specs.View.{facts}
use Rattle.rounds.proofs.View.{fact_role, fact_last, facts_at}
use Rattle.judging.specs.Row.{Holds, Met, Filled}
use Rattle.judging.specs.Way.{start_of}
use Rattle.judging.specs.Memo.{facts_in, class_in_lem, Started, Gave, Empty, SelfPut, Selves, RowPut, Fellows}
use Rattle.judging.specs.declared.way.Way.{Way}
use Rattle.judging.specs.declared.way.Way.TheVariants.{Leaf, Inner, Every, Any}

or-false : (a : Bool) → (a || false) ≡ a
or-false true = refl
or-false false = refl

or_twice : (a b c : Bool) → (a || (b || c)) ≡ ((a || b) || c)
or_twice true b c = refl
or_twice false b c = refl

-- ---- put_self, selves

pub self_there : {c t d : List ℕ} {k i : ℕ} {b : Bool} → b ≡ has t k i → b ≡ true → Put c (0 * 512 + i) d → SelfPut c t k i d
self_there {c} {t} {d} {k} {i} e f p = record { len = p.len; here = p.there ∙ sym (or_left (has t k i) (has c 0 i) (sym e ∙ f)); other = λ x l n. p.other (0 * 512 + x) (λ q. n (omega arith)) }

pub self_not : {c t : List ℕ} {k i : ℕ} {b : Bool} → b ≡ has t k i → b ≡ false → SelfPut c t k i c
self_not {c} {t} {k} {i} e f = record { len = refl; here = rw (sym e ∙ f) refl; other = λ x l n. refl }

pub selves_none : (t : List ℕ) (k : ℕ) (acc : List ℕ) → Selves t k 0 acc acc
selves_none t k acc = record { len = refl; row = λ x l. rw (le-ltb x 0 (omega arith)) refl }

pub selves_more : {t : List ℕ} {i k : ℕ} {acc c d : List ℕ} → i < 512 → Selves t k i acc c → SelfPut c t (k + i) i d → Selves t k (i + 1) acc d
selves_more {t} {i} {k} {acc} {c} {d} l p q = record { len = q.len ∙ p.len; row = λ x m. go x m (ℕ_discrete x i) }
  where
    same : (x : ℕ) → (x ≡ i → ⊥) → Dec (x < i) → ltb x i ≡ ltb x (i + 1)
    same x n (yes a) = lt-ltb x i a ∙ sym (lt-ltb x (i + 1) (omega arith))
    same x n (no a) = le-ltb x i (omega arith) ∙ sym (le-ltb x (i + 1) (omega arith))

    before : has c 0 i ≡ has acc 0 i
    before = p.row i l ∙ rw (le-ltb i i (omega arith)) refl

    new : has d 0 i ≡ ((ltb i (i + 1) && has t (k + i) i) || has acc 0 i)
    new = rw (lt-ltb i (i + 1) (omega arith)) (q.here ∙ rw before refl)

    go : (x : ℕ) → x < 512 → Dec (x ≡ i) → has d 0 x ≡ ((ltb x (i + 1) && has t (k + x) x) || has acc 0 x)
    go x m (yes a) = subst (λ (y : ℕ). has d 0 y ≡ ((ltb y (i + 1) && has t (k + y) y) || has acc 0 y)) (sym a) new
    go x m (no a) = q.other x m a ∙ (p.row x m ∙ ap (λ (b : Bool). (b && has t (k + x) x) || has acc 0 x) (same x a (dec_lt x i)))

-- ---- put_row, fellows

pub row_there : {c g d : List ℕ} {b l : ℕ} {r : Bool} → r ≡ has g l b → r ≡ true → Gathered c 0 g l d → RowPut c g b l d
row_there {c} {g} {d} {b} {l} e f p = record { len = p.len; row = λ x m. p.all x m ∙ rw (sym e ∙ f) (go (has c 0 x) (has g l x)) }
  where
    go : (u v : Bool) → (u || v) ≡ ((v && true) || u)
    go true true = refl
    go true false = refl
    go false true = refl
    go false false = refl

pub row_not : {c g : List ℕ} {b l : ℕ} {r : Bool} → r ≡ has g l b → r ≡ false → RowPut c g b l c
row_not {c} {g} {b} {l} e f = record { len = refl; row = λ x m. rw (sym e ∙ f) (go (has c 0 x) (has g l x)) }
  where
    go : (u v : Bool) → u ≡ ((v && false) || u)
    go u true = refl
    go u false = refl

pub fellows_none : (g : List ℕ) (b : ℕ) (acc : List ℕ) → Fellows g b 0 acc acc
unfolding class_in_lem
fellows_none g b acc = record { len = refl; row = λ x l. refl }

pub fellows_more : {g : List ℕ} {b l : ℕ} {acc c d : List ℕ} → Fellows g b l acc c → RowPut c g b l d → Fellows g b (l + 1) acc d
unfolding class_in_lem
fellows_more {g} {b} {l} {acc} {c} {d} p q = record { len = q.len ∙ p.len; row = λ x m. q.row x m ∙ (ap (λ (u : Bool). (has g l x && has g l b) || u) (p.row x m) ∙ step x) }
  where
    step : (x : ℕ) → ((has g l x && has g l b) || (any l (λ k. has g k x && has g k b) || has acc 0 x)) ≡ (any (l + 1) (λ k. has g k x && has g k b) || has acc 0 x)
    step x = let e : l + 1 ≡ suc l = omega arith in rw e (or_twice (has g l x && has g l b) (any l (λ k. has g k x && has g k b)) (has acc 0 x))

-- ---- rows of the table

module _ (h : Counts) {t : List ℕ} (k : Table (size_of h) t) where
  abbrev z : Size
  z = size_of h

  pub few : h.individuals ≤ 512
  few = k.sized.individuals

  pub field_lt : (ρ : Role) → RoleWithin h ρ → field_of_lem ρ + 2 < 2 * h.roles + 2
  field_lt ρ l = omega (arith, field_below ρ h.roles l)

  flip_within : (ρ : Role) → RoleWithin h ρ → RoleWithin h (flipped ρ)
  flip_within ρ l = subst (λ (r : ℕ). r < h.roles) (sym (flipped_id ρ)) l

  pub flip_lt : (ρ : Role) → RoleWithin h ρ → table.flipped (field_of_lem ρ) + 2 < 2 * h.roles + 2
  flip_lt ρ l = omega (arith, field_flipped ρ, field_lt (flipped ρ) (flip_within ρ l))

  pub field_room : (f : ℕ) → f + 1 < 2 * h.roles + 2 → (base (size_of h) f + h.individuals) * 8 ≤ length t
  field_room f l = omega (arith, base_step z f (z.fields - 1) (omega arith), k.room)

  pub class_room : (c : ℕ) → c < h.classes → (base (size_of h) (2 * h.roles + 2 - 1) + c) * 8 + 8 ≤ length t
  class_room c l = omega (arith, k.room)

  -- they have the facts
  edge_row : (ρ : Role) (a : ℕ) → RoleWithin h ρ → a < h.individuals → Holds t (base z (field_of_lem ρ) + a) h.individuals (λ b. facts z t (edge ρ a b))
  edge_row ρ a w l b m =
      let f = field_of_lem ρ in
      let u = wide_other z f (λ q. omega (arith, field_lt ρ w)) in
      let v = wide_other z (table.flipped f) (λ q. omega (arith, flip_lt ρ w)) in
      let can : Can z f a b = record { field = omega (arith, field_lt ρ w); from = rw u l; to = rw v m } in
      sym (facts_at k f a b can) ∙ ap (facts z t) (fact_role z f a b (omega (arith, field_lt ρ w)) ∙ ap (λ (r : Role). edge r a b) (role_of_field ρ))

  class_row_law : (c : ℕ) → c < h.classes → Holds t (base z (z.fields - 1) + c) h.individuals (λ i. facts z t (type i c))
  class_row_law c l i m =
      let w = wide_last z (z.fields - 1) (omega arith) in
      let v = wide_other z (table.flipped (z.fields - 1)) (λ q. omega arith) in
      let can : Can z (z.fields - 1) c i = record { field = omega arith; from = rw w l; to = rw v m } in
      sym (facts_at k (z.fields - 1) c i can) ∙ ap (facts z t) (fact_last z k.sized c i)

  -- ---- begin

  module _ (g acc : List ℕ) (o : Empty acc) where
    pub started_none : {x : ConceptExpr} (y : ConceptExpr) → x ≡ y → ((i : ℕ) → start_of h.individuals (facts_in h t) (class_in_lem h.individuals g) y i ≡ false) → Started h t g x acc
    started_none y e f = subst (λ (x : ConceptExpr). Started h t g x acc) (sym e) (λ i l. o i (omega (arith, few)) ∙ sym (f i))

    pub started_every : {x : ConceptExpr} {d : List ℕ} (y : ConceptExpr) → x ≡ y → ((i : ℕ) → start_of h.individuals (facts_in h t) (class_in_lem h.individuals g) y i ≡ true) → Filled acc d → Started h t g x d
    started_every {x} {d} y e f b = subst (λ (x : ConceptExpr). Started h t g x d) (sym e) (λ i l. b.row i (omega (arith, few)) ∙ sym (f i))

    pub started_class : {x : ConceptExpr} {d : List ℕ} (c : ℕ) → x ≡ Atomic c → c < h.classes → Gathered acc 0 t (base (size_of h) (2 * h.roles + 2 - 1) + c) d → Started h t g x d
    started_class {x} {d} c e l p = subst (λ (x : ConceptExpr). Started h t g x d) (sym e) (λ i m. p.all i (omega (arith, few)) ∙ rw (o i (omega (arith, few))) (class_row_law c l i m))

    pub started_group : {x : ConceptExpr} {d : List ℕ} (b : ℕ) → x ≡ Nominal b → Fellows g b h.individuals acc d → Started h t g x d
    started_group {x} {d} b e p = subst (λ (x : ConceptExpr). Started h t g x d) (sym e) (λ i m. p.row i (omega (arith, few)) ∙ rw (o i (omega (arith, few))) (or-false (class_in_lem h.individuals g i b)))

    pub started_self : {x : ConceptExpr} {d : List ℕ} (ρ : Role) → x ≡ SelfRestriction ρ → RoleWithin h ρ → Selves t (base (size_of h) (field_of_lem ρ)) h.individuals acc d → Started h t g x d
    started_self {x} {d} ρ e w p = subst (λ (x : ConceptExpr). Started h t g x d) (sym e) (λ i m. p.row i (omega (arith, few)) ∙ rw (o i (omega (arith, few)), lt-ltb i h.individuals m) (or-false (has t (base z (field_of_lem ρ) + i) i) ∙ edge_row ρ i w m i m))

  -- ---- give

  module _ (w : Way) (rows : List ℕ) (p : ℕ) (acc : List ℕ) where
    abbrev Given : Way → List ℕ → Type 0
    Given v d = Gave h t v (has rows p) acc d

    pub gave_leaf : w ≡ Leaf → Given w acc
    gave_leaf e = subst (λ (v : Way). Given v acc) (sym e) (λ x l. sym (or-false (has acc 0 x)))

    pub gave_every : (q : Parts) (d : List ℕ) → w ≡ Every q → Met acc rows p d → Given w d
    gave_every q d e m = subst (λ (v : Way). Given v d) (sym e) (λ x l. m.row x (omega (arith, few)))

    pub gave_any : (q : Parts) (d : List ℕ) → w ≡ Any q → Gathered acc 0 rows p d → Given w d
    gave_any q d e g = subst (λ (v : Way). Given v d) (sym e) (λ x l. g.all x (omega (arith, few)))

    pub gave_inner : (ρ : Role) (c : ℕ) (d : List ℕ) → w ≡ Inner ρ c → RoleWithin h ρ → Composed acc rows p t (base (size_of h) (table.flipped (field_of_lem ρ))) 0 h.individuals h.individuals d → Given w d
    gave_inner ρ c d e r g = subst (λ (v : Way). Given v d) (sym e) inner
      where
        here : (y x : ℕ) → y < h.individuals → x < h.individuals → has t (base z (table.flipped (field_of_lem ρ)) + y) x ≡ facts z t (edge ρ x y)
        here y x m l = rw (sym (field_flipped ρ)) (edge_row (flipped ρ) y (flip_within ρ r) m x l ∙ ap (facts z t) (edge_flipped ρ y x))

        inner : Given (Inner ρ c) d
        inner x l =
            let few_x : x < 512 = omega (arith, few) in
            both_ways (has d 0 x) (has acc 0 x || any h.individuals (λ y. facts z t (edge ρ x y) && has rows p y))
            (λ q. ⊎_elim (λ a. or_left (has acc 0 x) _ a) (λ b.
            or_right (has acc 0 x) _ (some_any h.individuals (λ y. facts z t (edge ρ x y) && has rows p y) b.0 b.1 (and_intro (facts z t (edge ρ x b.0)) (has rows p b.0) (sym (here b.0 x b.1 l) ∙ b.3) b.2))) (g.from x few_x q))
            (λ q. ⊎_elim (λ a. g.keeps x few_x a) (λ b.
            let a = any_some h.individuals (λ y. facts z t (edge ρ x y) && has rows p y) b in
            let v = and_both (facts z t (edge ρ x a.0)) (has rows p a.0) a.2 in
            g.into a.0 x (omega arith) a.1 a.1 few_x v.1 (here a.0 x a.1 l ∙ v.0)) (or_cases (has acc 0 x) _ q))
