-- The row of a clash: two classes of one individual are found, and the row that names their rows is accepted.
use Prim.Native.Nat.{ℕ, ◌+◌, ◌-◌, ◌*◌, ◌<◌, ◌≤◌}
use native.Mathlib.Decide.{dec_lt, ℕ_discrete}
use native.Mathlib.Omega.{arith}
use mathlib.Core.Path.{◌≡◌, refl, ap, sym, ◌∙◌, subst}
use mathlib.Core.Bool.{true, false, ◌&&◌}
use mathlib.Core.List.{List}
use mathlib.Core.Logic.{⊎_elim}
use lib.ListN.{length}
use lib.Dec.{eqb, ltb}
use borrow.Author.Tests.{eq-eqb}
use Rattle.book.specs.Book.{Book}
use Rattle.book.specs.Header.{Limits}
use Rattle.book.specs.declared.header.Counts.{Counts}
use Rattle.rows.specs.Row.{has, Scan}
use Rattle.rows.specs.declared.table.Size.{Size}
use Rattle.rows.specs.Table.{base, leads, Sized, Can, Table}
use Rattle.rows.proofs.table.Sizes.{row_room}
use Rattle.rules.specs.Fact.{type}
use Rattle.rules.specs.Rule.{Set, some}
use Rattle.book.specs.Within.{Every}
use Rattle.rules.specs.Clash.{Mark, disjoint, marks, by_types, denied, clashes}
use Rattle.rules.specs.Applied.{In}
use Rattle.rules.proofs.Tests.{false_true, and_intro, or_cases, or_left}
use Rattle.tables.specs.Open.{book_of, size_of, Open}
use Rattle.tables.proofs.Open.{open_limits, open_within}
use Rattle.tables.proofs.Sides.{PairLow, disjoint_low}
use Rattle.rounds.specs.View.{fact as fact_of}
use Rattle.rounds.proofs.View.{fact_types}
use Rattle.derivation.specs.declared.row.Row.{Row}
use Rattle.derivation.specs.Rows.{none, row_at, Claim, clash, claim, says, says_row, named, earlier}
use Rattle.derivation.specs.Accept.{statements, denies, by_clash_lem, follows, claim_at, accepts}
use Rattle.derivation.specs.Tables.{PairsOf}
use Rattle.derivation.proofs.Clashing.{types_clash, clashing, Clashing as TwoTypes}
use Rattle.derivation.proofs.Checking.{marks_low}
use Rattle.steps.specs.Links.{Place, RowPut}
use Rattle.steps.specs.Written.{known_in, Listed}
use Rattle.steps.proofs.Known.{known_at}
use Rattle.steps.proofs.Giving.{place_says, said, named_first, named_second, earlier_all, before_none}
use Rattle.steps.proofs.Putting.{listed_low}
use Rattle.steps.proofs.Rows.{before_row, named_same}
use Rattle.drawing.proofs.Concepts.{type_wide, type_ends}
use Rattle.listing.specs.declared.clash.Found.{Found}
use Rattle.listing.specs.Clashes.{typed, Partner, Two, Pair, Clashing, ClashPut}
use Rattle.std.proofs.Common.{None, Some}

-- ---- the searches

module _ {z : Size} {t : List ℕ} (k : Table z t) where
  pub type_can : (x a : ℕ) → x < z.individuals → a < z.classes → Can z (z.fields - 2) x a
  type_can x a i j = record { field = omega (arith, k.sized.some); from = rw (type_wide k.sized) i; to = rw (type_ends k.sized) j }

  -- what `next` and `member` ask of the row of x
  pub type_room_lem : (x : ℕ) → x < z.individuals → {j : ℕ} → j ≡ base z (z.fields - 2) + x → (j * 8 + 8 ≤ length t)
  type_room_lem x i e = rw e (row_room k (z.fields - 2) x (omega (arith, k.sized.some)) (rw (type_wide k.sized) i))

  pub type_next : (x b : ℕ) → x < z.individuals → b ≤ 512 → {j : ℕ} → j ≡ base z (z.fields - 2) + x → (j * 512 + z.classes ≤ length t * 64) × (b ≤ 65536) × (z.classes ≤ 65536)
  type_next x b i l {j} e = (omega (arith, type_room_lem x i e, k.sized.classes), omega arith, omega (arith, k.sized.classes))

pub pairs_next : {z : Size} (P : List ℕ) → Sized z → 2048 ≤ length P → (a b : ℕ) → a < z.classes → b ≤ 512 → (a * 512 + z.classes ≤ length P * 64) × (b ≤ 65536) × (z.classes ≤ 65536)
pairs_next P q l a b i m = (omega (arith, q.classes), omega arith, omega (arith, q.classes))

-- no class below r that clashes with a
abbrev pub Alone : Size → List ℕ → List ℕ → ℕ → ℕ → ℕ → Type 0
Alone z t P x a r = (b : ℕ) → b < r → b < z.classes → has P a b ≡ true → typed z t x b → ⊥

module _ (z : Size) (t P : List ℕ) (x a : ℕ) where
  pub alone_none : Alone z t P x a 0
  alone_none b l = absurd (omega arith)

  -- none before the next one that the pairs have
  pub alone_to : {p r : ℕ} → Alone z t P x a p → Scan (has P a) p z.classes r → Alone z t P x a r
  alone_to {p} h c i l m e o = go (dec_lt i p)
    where
      go : Dec (i < p) → ⊥
      go (yes d) = h i d m e o
      go (no d) = false_true (sym (c.gap i (omega arith) l) ∙ e)

  pub alone_more : {b j : ℕ} → j ≡ base z (z.fields - 2) + x → Alone z t P x a b → has t j b ≡ false → Alone z t P x a (b + 1)
  alone_more {b} {j} e h f i l m p o = go (ℕ_discrete i b)
    where
      go : Dec (i ≡ b) → ⊥
      go (yes q) = false_true (sym f ∙ (ap (λ (u : ℕ). has t u b) e ∙ subst (λ (u : ℕ). typed z t x u) q o))
      go (no q) = h i (omega arith) m p o

  pub partner_found : {r j : ℕ} → j ≡ base z (z.fields - 2) + x → r < z.classes → has P a r ≡ true → has t j r ≡ true → Partner z t P x a (Some r)
  partner_found {r} e l p o = (l, p, ap (λ (u : ℕ). has t u r) (sym e) ∙ o)

  pub partner_none : Alone z t P x a z.classes → Partner z t P x a None
  partner_none h b l = h b l l

-- no class below r with one that clashes
abbrev pub ApartBelow : Size → List ℕ → List ℕ → ℕ → ℕ → Type 0
ApartBelow z t P x r = (a : ℕ) → a < r → (b : ℕ) → a < z.classes → b < z.classes → has P a b ≡ true → typed z t x a → typed z t x b → ⊥

module _ (z : Size) (t P : List ℕ) (x : ℕ) where
  pub apart_none : ApartBelow z t P x 0
  apart_none a l = absurd (omega arith)

  -- none before the next one that x has
  pub apart_to : {p r j : ℕ} → j ≡ base z (z.fields - 2) + x → ApartBelow z t P x p → Scan (has t j) p z.classes r → ApartBelow z t P x r
  apart_to {p} {r} {j} e h c i l b m n u q o = go (dec_lt i p)
    where
      go : Dec (i < p) → ⊥
      go (yes d) = h i d b m n u q o
      go (no d) = false_true (sym (c.gap i (omega arith) l) ∙ (ap (λ (v : ℕ). has t v i) e ∙ q))

  pub apart_more : {a : ℕ} → ApartBelow z t P x a → Partner z t P x a None → ApartBelow z t P x (a + 1)
  apart_more {a} h f i l b m n p q o = go (ℕ_discrete i a)
    where
      go : Dec (i ≡ a) → ⊥
      go (yes u) = f b n (subst (λ (v : ℕ). has P v b ≡ true) u p) o
      go (no u) = h i (omega arith) b m n p q o

  pub pair_found : {a b j : ℕ} → j ≡ base z (z.fields - 2) + x → x < z.individuals → a < z.classes → has t j a ≡ true → Partner z t P x a (Some b) → Pair z t P x (Some (record { at = x; one = a; other = b }))
  pair_found {a} {b} e lx la o f = record { at = lx; one = la; other = f.0; pair = f.1; has_one = ap (λ (u : ℕ). has t u a) (sym e) ∙ o; has_other = f.2 }

  pub pair_none : ApartBelow z t P x z.classes → Pair z t P x None
  pair_none h a b m n p = h a m b m n p

-- ---- the row

pub accepts_by : (B : Book) (l : List ℕ) (k : ℕ) (r : Row) (c : Claim) → row_at l k ≡ r → claim_at B l k ≡ c → earlier k r ≡ true → follows B r (named B.counts l r) c ≡ true → accepts B l k ≡ true
unfolding accepts
accepts_by B l k r c e f a b =
    subst (λ (d : Claim). (earlier k (row_at l k) && follows B (row_at l k) (named B.counts l (row_at l k)) d) ≡ true) (sym f)
    (subst (λ (x : Row). (earlier k x && follows B x (named B.counts l x) c) ≡ true) (sym e) (and_intro _ _ a b))

module _ {s O : List ℕ} {h : Counts} {t : List ℕ} {n : ℕ} {l : List ℕ} (w : Listed s h t n l) (o : Open s h O) where
  abbrev B : Book
  B = book_of s

  top : Limits (book_of s).counts
  top = subst Limits (sym o.counts) (open_limits o)

  pairs_low : Every (PairLow (book_of s).counts) (disjoint (book_of s))
  pairs_low = subst (λ (g : Counts). Every (PairLow g) (disjoint (book_of s))) (sym o.counts) (disjoint_low o (book_of s).statements (open_within o))

  marks_below : Every (λ (m : Mark). m.left < (book_of s).counts.classes) (marks (book_of s))
  marks_below = subst (λ (g : Counts). Every (λ (m : Mark). m.left < g.classes) (marks (book_of s))) (sym o.counts) (marks_low o)

  table : Table (size_of h) t
  table = w.table

  type_at : (x a : ℕ) → x < h.individuals → a < h.classes → known_in h t (type x a) ≡ leads (size_of h) t ((size_of h).fields - 2) x a
  type_at x a i j = ap (known_in h t) (sym (fact_types (size_of h) table.sized x a)) ∙ known_at h table ((size_of h).fields - 2) x a (type_can table x a i j)

  same_individuals : (book_of s).counts.individuals ≡ h.individuals
  same_individuals = ap (λ (g : Counts). g.individuals) o.counts

  same_classes : (book_of s).counts.classes ≡ h.classes
  same_classes = ap (λ (g : Counts). g.classes) o.counts

  -- types that clash are found
  not_found : {P : List ℕ} → PairsOf (book_of s) h P → by_types (book_of s) (known_in h t) ≡ true → Clashing (size_of h) t P None → ⊥
  not_found {P} pairs c f =
      let it : TwoTypes (book_of s) top pairs_low marks_below (known_in h t) = clashing (book_of s) top pairs_low marks_below (known_in h t) c in
      let i : it.at < h.individuals = subst (λ (u : ℕ). it.at < u) same_individuals it.at_low in
      let a : it.one < h.classes = subst (λ (u : ℕ). it.one < u) same_classes it.one_low in
      let b : it.other < h.classes = subst (λ (u : ℕ). it.other < u) same_classes it.other_low in
      f it.at i it.one it.other a b (pairs.pairs it.one it.other a b ∙ it.clash) (sym (type_at it.at it.one i a) ∙ it.has_one) (sym (type_at it.at it.other i b) ∙ it.has_other)

  -- and where none are, something is denied
  pub denied_there : {P : List ℕ} → PairsOf (book_of s) h P → clashes (book_of s) (known_in h t) ≡ true → Clashing (size_of h) t P None → some (denied (book_of s)) (known_in h t) ≡ true
  unfolding clashes
  denied_there {P} pairs c f =
      ⊎_elim (λ e. absurd (not_found pairs e f)) (λ e. e) (or_cases (by_types (book_of s) (known_in h t)) (some (denied (book_of s)) (known_in h t)) c)

  abbrev row_of : ℕ → ℕ → Row
  row_of i j = record { rule = 8; statement = none; first = i; second = j; third = none; kind = 2; one = none; two = none; three = none }

  row_claims : (g : Counts) (i j : ℕ) → claim g (row_of i j) ≡ clash
  unfolding claim
  row_claims g i j = refl

  module _ {P : List ℕ} {r : Found} (pairs : PairsOf (book_of s) h P) (two : Two (size_of h) t P r) {i j : ℕ} (pi : Place h l n (fact_of (size_of h) ((size_of h).fields - 2) r.at r.one) i) (pj : Place h l n (fact_of (size_of h) ((size_of h).fields - 2) r.at r.other) j) where
    few : n ≤ none
    few = omega (arith, listed_low w)

    has_type : (x a k : ℕ) → Place h l n (fact_of (size_of h) ((size_of h).fields - 2) x a) k → (Q : Set) → In (says (says_row h l k)) Q → Q (type x a) ≡ true
    has_type x a k p Q q = subst (λ (u : ℕ). Q u ≡ true) (fact_types (size_of h) table.sized x a) (said Q (subst (λ (u : Claim). In (says u) Q) (place_says few p) q))

    lower : earlier n (row_of i j) ≡ true
    lower = earlier_all n (row_of i j) (before_row n i pi.low) (before_row n j pj.low) (before_none n)

    clash_of_two : by_types (book_of s) (named h l (row_of i j)) ≡ true
    clash_of_two =
        types_clash (book_of s) top pairs_low marks_below (named h l (row_of i j)) r.at r.one r.other (rw same_individuals two.at)
        (has_type r.at r.one i pi (named h l (row_of i j)) (named_first h l (row_of i j)))
        (has_type r.at r.other j pj (named h l (row_of i j)) (named_second h l (row_of i j)))
        (sym (pairs.pairs r.one r.other two.one two.other) ∙ two.pair)

    by_clash_law : (Q : Set) → by_types (book_of s) Q ≡ true → by_clash_lem (book_of s) (row_of i j) Q ≡ true
    unfolding by_clash_lem
    by_clash_law Q e = and_intro _ _ (eq-eqb 8 8 refl) (and_intro _ _ (or_left (eqb none none) (ltb none (length (statements (book_of s)))) (eq-eqb none none refl)) (or_left (by_types (book_of s) Q) (denies (book_of s) Q) e))

    pub clash_put : {m : List ℕ} → RowPut l n (row_of i j) m → ClashPut (book_of s) l n m
    clash_put {m} p = record { len = p.len; old = p.old; accepted = yes_row; claims = is }
      where
        is : claim_at (book_of s) m n ≡ clash
        is = ap (claim (book_of s).counts) p.row ∙ row_claims (book_of s).counts i j

        follow : follows (book_of s) (row_of i j) (named (book_of s).counts m (row_of i j)) clash ≡ true
        follow = by_clash_law (named (book_of s).counts m (row_of i j)) (ap (λ (g : Counts). by_types (book_of s) (named g m (row_of i j))) o.counts ∙ (ap (λ (Q : Set). by_types (book_of s) Q) (named_same n l m p.old h (row_of i j) lower) ∙ clash_of_two))

        yes_row : accepts (book_of s) m n ≡ true
        yes_row = accepts_by (book_of s) m n (row_of i j) clash p.row is lower follow
