-- The pairs of classes that clash, by steps.
use Prim.Native.Nat.{ℕ, zero, suc, ◌+◌, ◌*◌, ◌/◌, ◌%◌, ◌<◌}
use native.Mathlib.Decide.{ℕ_discrete}
use native.Mathlib.Omega.{arith}
use mathlib.Core.Path.{◌≡◌, refl, ap, ap₂, sym, ◌∙◌}
use mathlib.Core.Bool.{Bool, true, false, not, ◌&&◌, ◌||◌, or-false}
use mathlib.Core.List.{List}
use lib.ListN.{get_or}
use lib.Dec.{eqb}
use Rattle.rows.specs.Row.{has, Gathered}
use Rattle.rules.specs.Rule.{any}
use Rattle.tables.specs.Leaf.{kind_in}
use Rattle.derivation.specs.Pairs.{marks_clash_lem, Gathers, Spreads, brings_clash, Paired}

any_next : (i : ℕ) (f : ℕ → Bool) → any (i + 1) f ≡ (f i || any i f)
any_next i f = let z : i + 1 ≡ suc i = omega arith in ap (λ (x : ℕ). any x f) z

or_more : (a b c : Bool) → ((a || b) || c) ≡ (a || (c || b))
or_more true b c = refl
or_more false true true = refl
or_more false true false = refl
or_more false false true = refl
or_more false false false = refl

and_none : (a : Bool) → (a && false) ≡ false
and_none true = refl
and_none false = refl

-- ---- two markers

module _ (F J : List ℕ) (x y : ℕ) where
  pub marks_both : {r c d s : ℕ} {k under apart : Bool} → eqb (kind_in x) 5 ≡ true → r ≡ x % 1048576 / 256 → c ≡ x % 256 → d ≡ y % 256 → under ≡ has F 0 (2 * r) → apart ≡ has J c d → k ≡ eqb (kind_in y) 5 → s ≡ y % 1048576 / 256
      → (k && (eqb r s && (not (eqb c d) && (under && apart)))) ≡ marks_clash_lem F J x y
  unfolding marks_clash_lem
  marks_both e er ec ed eu ea ek es = rw (e, eu, ea, ek, es, er, ec, ed) refl

  pub marks_none : eqb (kind_in x) 5 ≡ false → false ≡ marks_clash_lem F J x y
  unfolding marks_clash_lem
  marks_none e = rw e refl

-- ---- one row

pub gathers_none : (c : List ℕ) (f : ℕ → Bool) → ((b : ℕ) → f b ≡ false) → Gathers c f c
gathers_none c f h = record { len = refl; row = λ b l. sym (or-false (has c 0 b)) ∙ ap (λ (x : Bool). has c 0 b || x) (sym (h b)) }

pub gathers_row : {c d T : List ℕ} {k : ℕ} {m : Bool} → m ≡ true → Gathered c 0 T k d → Gathers c (λ b. m && has T k b) d
gathers_row {c} {d} {T} {k} e g = record { len = g.len; row = λ b l. g.all b l ∙ ap (λ (x : Bool). has c 0 b || (x && has T k b)) (sym e) }

pub gathers_start : (c : List ℕ) (f : ℕ → ℕ → Bool) → Gathers c (λ b. any 0 (λ k. f k b)) c
gathers_start c f = gathers_none c (λ b. false) (λ b. refl)

pub gathers_more : {c n d : List ℕ} {k : ℕ} (f : ℕ → ℕ → Bool) → Gathers c (λ b. any k (λ j. f j b)) n → Gathers n (f k) d → Gathers c (λ b. any (k + 1) (λ j. f j b)) d
gathers_more {c} {n} {d} {k} f w g = record {
  len = g.len ∙ w.len;
  row = λ b l. g.row b l ∙ (ap (λ (x : Bool). x || f k b) (w.row b l) ∙ (or_more (has c 0 b) (any k (λ j. f j b)) (f k b) ∙ ap (λ (x : Bool). has c 0 b || x) (sym (any_next k (λ j. f j b)))));
}

-- ---- rows of classes

pub spreads_start : (c : List ℕ) (f : ℕ → ℕ → Bool) → Spreads c 0 0 f c
spreads_start c f = record { len = refl; rows = λ a b i j l. absurd (omega arith); low = λ a b i l. refl; high = λ a b i l. refl }

pub spreads_more : {c n d : List ℕ} {a : ℕ} {f : ℕ → ℕ → Bool} → Spreads c 0 a f n → Spreads n a (a + 1) f d → Spreads c 0 (a + 1) f d
spreads_more {c} {n} {d} {a} {f} w g = record {
  len = g.len ∙ w.len;
  rows = λ x b i j l. go x b j l (ℕ_discrete x a);
  low = λ x b i l. absurd (omega arith);
  high = λ x b i l. g.high x b i l ∙ w.high x b (omega arith) l;
}
  where
    go : (x b : ℕ) → x < a + 1 → b < 512 → Dec (x ≡ a) → has d x b ≡ (has c x b || f x b)
    go x b j l (yes e) = g.rows x b (omega arith) j l ∙ ap (λ (y : Bool). y || f x b) (w.high x b (omega arith) l)
    go x b j l (no e) = g.low x b (omega arith) l ∙ w.rows x b (omega arith) (omega arith) l

pub spread_row : {c d A : List ℕ} (T : List ℕ) (k : ℕ) {a : ℕ} {m : Bool} → m ≡ has T k a → m ≡ true → Gathered c a A 0 d → Spreads c a (a + 1) (λ x b. has T k x && has A 0 b) d
spread_row {c} {d} {A} T k {a} e i g = record {
  len = g.len;
  rows = λ x b p q l.
      let z : x ≡ a = omega arith in
      ap (λ (y : ℕ). has d y b) z ∙ (g.all b l ∙ (ap (λ (y : Bool). has c a b || (y && has A 0 b)) (sym (sym e ∙ i)) ∙ ap (λ (y : ℕ). has c y b || (has T k y && has A 0 b)) (sym z)));
  low = λ x b p l. g.other (x * 512 + b) (λ q. omega arith);
  high = λ x b p l. g.other (x * 512 + b) (λ q. omega arith);
}

pub spread_none : {c : List ℕ} (A T : List ℕ) (k : ℕ) {a : ℕ} {m : Bool} → m ≡ has T k a → m ≡ false → Spreads c a (a + 1) (λ x b. has T k x && has A 0 b) c
spread_none {c} A T k {a} e i = record {
  len = refl;
  rows = λ x b p q l. let z : x ≡ a = omega arith in sym (or-false (has c x b)) ∙ ap (λ (y : Bool). has c x b || (y && has A 0 b)) (sym (ap (has T k) z ∙ (sym e ∙ i)));
  low = λ x b p l. refl;
  high = λ x b p l. refl;
}

-- ---- all pairs

pub paired_start : (c : List ℕ) (f : ℕ → ℕ → ℕ → Bool) → Paired c (λ a b. any 0 (λ k. f k a b)) c
paired_start c f = record { len = refl; rows = λ a b i l. sym (or-false (has c a b)) }

pub paired_more : {c n d : List ℕ} {k : ℕ} (f : ℕ → ℕ → ℕ → Bool) → Paired c (λ a b. any k (λ j. f j a b)) n → Paired n (f k) d → Paired c (λ a b. any (k + 1) (λ j. f j a b)) d
paired_more {c} {n} {d} {k} f w g = record {
  len = g.len ∙ w.len;
  rows = λ a b i l. g.rows a b i l ∙ (ap (λ (x : Bool). x || f k a b) (w.rows a b i l) ∙ (or_more (has c a b) (any k (λ j. f j a b)) (f k a b) ∙ ap (λ (x : Bool). has c a b || x) (sym (any_next k (λ j. f j a b)))));
}

any_false : (n : ℕ) (f : ℕ → Bool) → ((k : ℕ) → f k ≡ false) → any n f ≡ false
any_false zero f h = refl
any_false (suc n) f h = ap₂ ◌||◌ (h n) (any_false n f h)

-- a concept that is a marker, and one that is none
pub paired_marker : (F J T L : List ℕ) (n k : ℕ) {c d A Z : List ℕ} {x : ℕ} → x ≡ get_or L k 0 → ((b : ℕ) → b < 512 → has Z 0 b ≡ false) → Gathers Z (λ b. any n (λ j. marks_clash_lem F J x (get_or L j 0) && has T j b)) A → Spreads c 0 256 (λ a b. has T k a && has A 0 b) d
    → Paired c (λ a b. brings_clash F J T L n k a b) d
paired_marker F J T L n k {c} {d} {A} {Z} {x} e blank g w = record {
  len = w.len;
  rows = λ a b i l.
      w.rows a b (omega arith) i l
      ∙ ap (λ (y : Bool). has c a b || (has T k a && y)) (g.row b l ∙ (ap (λ (y : Bool). y || any n (λ j. marks_clash_lem F J x (get_or L j 0) && has T j b)) (blank b l) ∙ ap (λ (y : ℕ). any n (λ j. marks_clash_lem F J y (get_or L j 0) && has T j b)) e));
}

pub paired_none : (F J T L : List ℕ) (n k : ℕ) {c : List ℕ} → eqb (kind_in (get_or L k 0)) 5 ≡ false → Paired c (λ a b. brings_clash F J T L n k a b) c
paired_none F J T L n k {c} e = record {
  len = refl;
  rows = λ a b i l.
      sym (or-false (has c a b))
      ∙ ap (λ (x : Bool). has c a b || x) (sym (ap (λ (x : Bool). has T k a && x) (any_false n (λ j. marks_clash_lem F J (get_or L k 0) (get_or L j 0) && has T j b) (λ j. ap (λ (x : Bool). x && has T j b) (sym (marks_none F J (get_or L k 0) (get_or L j 0) e)))) ∙ and_none (has T k a)));
}
