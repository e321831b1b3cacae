-- The difference of two sets, in the order of the lists, is the one list without the other.
use Prim.Native.Nat.{ℕ, zero, suc, ◌+◌, ◌*◌, ◌/◌, ◌≤◌, ◌<◌}
use native.Mathlib.Omega.{arith}
use mathlib.Core.Path.{◌≡◌, refl, ap, ap₂, sym, ◌∙◌}
use mathlib.Core.Bool.{Bool, true, false, not, ◌&&◌}
use mathlib.Core.List.{List, [], ◌∷◌, ◌++◌, append_assoc}
use lib.ListN.{length, drop}
use lib.Seq.{drop-append_seam}
use lib.Dec.{ltb}
use Rattle.book.specs.Read.{pick}
use Rattle.book.specs.Within.{Every}
use Rattle.book.specs.Book.{Book}
use Rattle.book.specs.declared.role.Role.TheVariants.{Named}
use Rattle.rules.specs.Fact.{edge, type, pair, Two, Three, two, three}
use Rattle.rules.specs.Rule.{Set}
use Rattle.rules.specs.Same.{same_pair}
use Rattle.rules.specs.Lists.{gather, only, types, edges, pairs, entries2, entries3, filled}
use Rattle.rules.specs.Applied.{In}
use Rattle.rules.proofs.Ended.{length_entries2, length_entries3}
use Rattle.rules.proofs.Tests.{false_true, every_map, every_append}
use Rattle.effect.specs.Effect.{less}
use Rattle.verdict.specs.declared.end.End.{End as Answer}
use Rattle.verdict.specs.declared.end.End.TheVariants as answer
use Rattle.verdict.specs.Conclude.{came}
use Rattle.whatif.specs.Minus.{alike, minus, flat, rows2, rows3, Standing, same2, same3, Filled, lessened}
use Rattle.whatif.proofs.Minus.{alike_self, alike_other}

-- members of any kind, each with its row and a number that rises with it
module _ {A : Type 0} (row : A → List ℕ) (key : A → ℕ) (rising : (x y : A) → row x ≡ row y → key x ≡ key y) where
  abbrev same : A → A → Bool
  same x y = alike (row x) (row y)

  other : (x y : A) → key x < key y → same x y ≡ false
  other x y l = alike_other (row x) (row y) (λ e. let k = rising x y e in omega arith)

  -- part H of a list is its part F without G, and all of G is at or above lo; what follows is at or above hi
  pub record Block (F G H : List A) (lo hi : ℕ) : Type 0 where
    pub rise : lo ≤ hi
    pub above : Every (λ x. lo ≤ key x) G
    pub less : (X Y : List A) → Every (λ x. hi ≤ key x) Y → minus same (F ++ X) (G ++ Y) ≡ H ++ minus same X Y

  higher : (a b : ℕ) → a ≤ b → (Y : List A) → Every (λ x. b ≤ key x) Y → Every (λ x. a ≤ key x) Y
  higher a b l = every_map (λ x. b ≤ key x) (λ x. a ≤ key x) (λ x h. omega arith)

  pub block_none : (lo : ℕ) → Block [] [] [] lo lo
  block_none lo = record { rise = omega arith; above = tt; less = λ X Y h. refl }

  pub block_then : {F G H F' G' H' : List A} {a b c : ℕ} → Block F G H a b → Block F' G' H' b c → Block (F ++ F') (G ++ G') (H ++ H') a c
  block_then {F} {G} {H} {F'} {G'} {H'} {a} {b} {c} u v = record {
    rise = omega (arith, u.rise, v.rise);
    above = every_append (λ x. a ≤ key x) G G' u.above (higher a b u.rise G' v.above);
    less = λ X Y h.
        ap₂ (minus same) (append_assoc F F' X) (append_assoc G G' Y)
        ∙ (u.less (F' ++ X) (G' ++ Y) (every_append (λ x. b ≤ key x) G' Y v.above (higher b c v.rise Y h))
        ∙ (ap (λ (z : List A). H ++ z) (v.less X Y h) ∙ sym (append_assoc H H' (minus same X Y))));
  }

  -- one member, that is listed or not, in either list
  pub block_one : (p q : Bool) (x : A) (lo hi : ℕ) → (q ≡ true → p ≡ true) → lo ≤ key x → key x < hi → Block (only p x) (only q x) (only (p && not q) x) lo hi
  block_one p q x lo hi i l h = record { rise = omega arith; above = low q; less = go p q i }
    where
      low : (q : Bool) → Every (λ x. lo ≤ key x) (only q x)
      low true = (l, tt)
      low false = tt

      new : (X Y : List A) → Every (λ x. hi ≤ key x) Y → minus same (x ∷ X) Y ≡ x ∷ minus same X Y
      new X [] e = refl
      new X (y ∷ Y) e = let k = e.0 in ap (λ (b : Bool). pick b (minus same X Y) (x ∷ minus same X (y ∷ Y))) (other x y (omega arith))

      go : (p q : Bool) → (q ≡ true → p ≡ true) → (X Y : List A) → Every (λ x. hi ≤ key x) Y → minus same (only p x ++ X) (only q x ++ Y) ≡ only (p && not q) x ++ minus same X Y
      go true true i X Y e = ap (λ (b : Bool). pick b (minus same X Y) (x ∷ minus same X (x ∷ Y))) (alike_self (row x))
      go true false i X Y e = new X Y e
      go false true i X Y e = false_true (i refl)
      go false false i X Y e = refl

  pub block_loop : (n : ℕ) (F G H : ℕ → List A) (lo : ℕ → ℕ) → ((k : ℕ) → k < n → Block (F k) (G k) (H k) (lo k) (lo (suc k))) → Block (gather n F) (gather n G) (gather n H) (lo 0) (lo n)
  block_loop zero F G H lo f = block_none (lo 0)
  block_loop (suc n) F G H lo f = block_then (block_loop n F G H lo (λ k l. f k (omega arith))) (f n (omega arith))

  pub block_wide : {F G H : List A} {a b : ℕ} (c d : ℕ) → c ≤ a → b ≤ d → Block F G H a b → Block F G H c d
  block_wide {F} {G} {H} {a} {b} c d l h u = record { rise = omega (arith, u.rise); above = higher c a l G u.above; less = λ X Y e. u.less X Y (higher b d h Y e) }

  nothing_left : (H : List A) → H ++ [] ≡ H
  nothing_left [] = refl
  nothing_left (x ∷ H) = ap (λ (z : List A). x ∷ z) (nothing_left H)

  pub block_is : {F G H : List A} {a b : ℕ} → Block F G H a b → minus same F G ≡ H
  block_is {F} {G} {H} u = ap₂ (minus same) (sym (nothing_left F)) (sym (nothing_left G)) ∙ (u.less [] [] tt ∙ nothing_left H)

-- ---- types, edges and pairs

abbrev pub row2 : Two → List ℕ
row2 x = x.one ∷ x.other ∷ []

abbrev pub row3 : Three → List ℕ
row3 x = x.role ∷ x.one ∷ x.other ∷ []

abbrev key2 : Two → ℕ
key2 x = x.one * 512 + x.other

abbrev key3 : Three → ℕ
key3 x = (x.role * 512 + x.one) * 512 + x.other

rising2 : (x y : Two) → row2 x ≡ row2 y → key2 x ≡ key2 y
rising2 x y e = let a : x.one ≡ y.one = cc in let b : x.other ≡ y.other = cc in omega arith

rising3 : (x y : Three) → row3 x ≡ row3 y → key3 x ≡ key3 y
rising3 x y e = let a : x.role ≡ y.role = cc in let b : x.one ≡ y.one = cc in let c : x.other ≡ y.other = cc in omega arith

-- two numbers, by a test
grid_less : (n m : ℕ) → m ≤ 512 → (p q : ℕ → ℕ → Bool) → ((i c : ℕ) → q i c ≡ true → p i c ≡ true)
    → minus same2 (gather n λ i. gather m λ c. only (p i c) (two i c)) (gather n λ i. gather m λ c. only (q i c) (two i c)) ≡ (gather n λ i. gather m λ c. only (p i c && not (q i c)) (two i c))
grid_less n m few p q i = block_is row2 key2 rising2 (block_loop row2 key2 rising2 n _ _ _ (λ k. k * 512) (λ k l.
    block_wide row2 key2 rising2 (k * 512) (suc k * 512) (omega arith) (omega arith)
    (block_loop row2 key2 rising2 m _ _ _ (λ c. k * 512 + c) (λ c h. block_one row2 key2 rising2 (p k c) (q k c) (two k c) (k * 512 + c) (k * 512 + suc c) (i k c) (omega arith) (omega arith)))))

module _ (B : Book) (S P : Set) (i : In P S) where
  pub types_less : B.counts.classes ≤ 512 → types B (less S P) ≡ minus same2 (types B S) (types B P)
  unfolding types
  types_less few = sym (grid_less B.counts.individuals B.counts.classes few (λ x c. S (type x c)) (λ x c. P (type x c)) (λ x c. i (type x c)))

  pair_apart : (b s p : Bool) → (b && (s && not p)) ≡ ((b && s) && not (b && p))
  pair_apart true s p = refl
  pair_apart false s p = refl

  pair_keeps : (b s p : Bool) → (p ≡ true → s ≡ true) → (b && p) ≡ true → (b && s) ≡ true
  pair_keeps true s p h e = h e
  pair_keeps false s p h e = e

  gather_as : {A : Type 0} (n : ℕ) (f g : ℕ → List A) → ((k : ℕ) → f k ≡ g k) → gather n f ≡ gather n g
  gather_as zero f g h = refl
  gather_as (suc n) f g h = ap₂ (λ (y z : List _). y ++ z) (gather_as n f g h) (h n)

  pub pairs_less : B.counts.individuals ≤ 512 → pairs B (less S P) ≡ minus same2 (pairs B S) (pairs B P)
  unfolding pairs same_pair
  pairs_less few =
      gather_as B.counts.individuals _ _ (λ x. gather_as B.counts.individuals _ _ (λ y. ap (λ (b : Bool). only b (two x y)) (pair_apart (ltb x y) (S (pair x y)) (P (pair x y)))))
      ∙ sym (grid_less B.counts.individuals B.counts.individuals few (λ x y. ltb x y && S (pair x y)) (λ x y. ltb x y && P (pair x y)) (λ x y. pair_keeps (ltb x y) (S (pair x y)) (P (pair x y)) (i (pair x y))))

  pub edges_less : B.counts.individuals ≤ 512 → edges B (less S P) ≡ minus same3 (edges B S) (edges B P)
  unfolding edges
  edges_less few = sym (block_is row3 key3 rising3 (block_loop row3 key3 rising3 B.counts.roles _ _ _ (λ r. r * 512 * 512) (λ r h.
      block_wide row3 key3 rising3 (r * 512 * 512) (suc r * 512 * 512) (omega arith) (omega arith)
      (block_loop row3 key3 rising3 B.counts.individuals _ _ _ (λ a. (r * 512 + a) * 512) (λ a l.
      block_wide row3 key3 rising3 ((r * 512 + a) * 512) ((r * 512 + suc a) * 512) (omega arith) (omega arith)
      (block_loop row3 key3 rising3 B.counts.individuals _ _ _ (λ b. (r * 512 + a) * 512 + b) (λ b m.
      block_one row3 key3 rising3 (S (edge (Named r) a b)) (P (edge (Named r) a b)) (three r a b) ((r * 512 + a) * 512 + b) ((r * 512 + a) * 512 + suc b) (i (edge (Named r) a b)) (omega arith) (omega arith))))))))

-- ---- as rows

minus_rows2 : (xs ys : List Two) → rows2 (minus same2 xs ys) ≡ minus alike (rows2 xs) (rows2 ys)
minus_rows2 [] ys = refl
minus_rows2 (x ∷ xs) [] = ap (λ (z : List (List ℕ)). row2 x ∷ z) (minus_rows2 xs [])
minus_rows2 (x ∷ xs) (y ∷ ys) = go (same2 x y) (minus_rows2 xs ys) (minus_rows2 xs (y ∷ ys))
  where
    go : (b : Bool) → rows2 (minus same2 xs ys) ≡ minus alike (rows2 xs) (rows2 ys) → rows2 (minus same2 xs (y ∷ ys)) ≡ minus alike (rows2 xs) (rows2 (y ∷ ys)) → rows2 (pick b (minus same2 xs ys) (x ∷ minus same2 xs (y ∷ ys))) ≡ pick b (minus alike (rows2 xs) (rows2 ys)) (row2 x ∷ minus alike (rows2 xs) (rows2 (y ∷ ys)))
    go true e f = e
    go false e f = ap (λ (z : List (List ℕ)). row2 x ∷ z) f

minus_rows3 : (xs ys : List Three) → rows3 (minus same3 xs ys) ≡ minus alike (rows3 xs) (rows3 ys)
minus_rows3 [] ys = refl
minus_rows3 (x ∷ xs) [] = ap (λ (z : List (List ℕ)). row3 x ∷ z) (minus_rows3 xs [])
minus_rows3 (x ∷ xs) (y ∷ ys) = go (same3 x y) (minus_rows3 xs ys) (minus_rows3 xs (y ∷ ys))
  where
    go : (b : Bool) → rows3 (minus same3 xs ys) ≡ minus alike (rows3 xs) (rows3 ys) → rows3 (minus same3 xs (y ∷ ys)) ≡ minus alike (rows3 xs) (rows3 (y ∷ ys)) → rows3 (pick b (minus same3 xs ys) (x ∷ minus same3 xs (y ∷ ys))) ≡ pick b (minus alike (rows3 xs) (rows3 ys)) (row3 x ∷ minus alike (rows3 xs) (rows3 (y ∷ ys)))
    go true e f = e
    go false e f = ap (λ (z : List (List ℕ)). row3 x ∷ z) f

flat2 : (xs : List Two) → flat (rows2 xs) ≡ entries2 xs
flat2 [] = refl
flat2 (x ∷ xs) = ap (λ (z : List ℕ). x.one ∷ x.other ∷ z) (flat2 xs)

flat3 : (xs : List Three) → flat (rows3 xs) ≡ entries3 xs
flat3 [] = refl
flat3 (x ∷ xs) = ap (λ (z : List ℕ). x.role ∷ x.one ∷ x.other ∷ z) (flat3 xs)

long2 : (xs : List Two) → Every (λ x. length x ≡ 2) (rows2 xs)
long2 [] = tt
long2 (x ∷ xs) = (refl, long2 xs)

long3 : (xs : List Three) → Every (λ x. length x ≡ 3) (rows3 xs)
long3 [] = tt
long3 (x ∷ xs) = (refl, long3 xs)

-- a filled list stands
standing : (w n : ℕ) (l : List ℕ) (xs : List (List ℕ)) (es : List ℕ) (N : ℕ) → Every (λ x. length x ≡ w) xs → flat xs ≡ es → n ≡ length es → l ≡ filled es N → Standing w n l xs
standing w n l xs es N rows e s f = record {
  rows = rows;
  size = s ∙ ap length (sym e);
  front = f ∙ ap₂ (λ (y z : List ℕ). y ++ z) (sym e) (sym (drop-append_seam es _) ∙ ap₂ drop (sym s) (sym f));
}

pub standing2 : (n N : ℕ) (l : List ℕ) (xs : List Two) → n ≡ length xs → l ≡ filled (entries2 xs) N → Standing 2 (2 * n) l (rows2 xs)
standing2 n N l xs e f = standing 2 (2 * n) l (rows2 xs) (entries2 xs) N (long2 xs) (flat2 xs) (omega (arith, e, length_entries2 xs)) f

pub standing3 : (n N : ℕ) (l : List ℕ) (xs : List Three) → n ≡ length xs → l ≡ filled (entries3 xs) N → Standing 3 (3 * n) l (rows3 xs)
standing3 n N l xs e f = standing 3 (3 * n) l (rows3 xs) (entries3 xs) N (long3 xs) (flat3 xs) (omega (arith, e, length_entries3 xs)) f

-- and what is left of it is filled again
pub left2 : (xs ys : List Two) → flat (minus alike (rows2 xs) (rows2 ys)) ≡ entries2 (minus same2 xs ys)
left2 xs ys = ap flat (sym (minus_rows2 xs ys)) ∙ flat2 (minus same2 xs ys)

pub left3 : (xs ys : List Three) → flat (minus alike (rows3 xs) (rows3 ys)) ≡ entries3 (minus same3 xs ys)
left3 xs ys = ap flat (sym (minus_rows3 xs ys)) ∙ flat3 (minus same3 xs ys)

-- ---- all three lists

half2 : (k : ℕ) (xs ys : List Two) → k ≡ length (flat (minus alike (rows2 xs) (rows2 ys))) → k / 2 ≡ length (minus same2 xs ys)
half2 k xs ys e = omega (arith, e, ap length (left2 xs ys), length_entries2 (minus same2 xs ys))

third3 : (k : ℕ) (xs ys : List Three) → k ≡ length (flat (minus alike (rows3 xs) (rows3 ys))) → k / 3 ≡ length (minus same3 xs ys)
third3 k xs ys e = omega (arith, e, ap length (left3 xs ys), length_entries3 (minus same3 xs ys))

pub removed : (T : List Two) (E : List Three) (P : List Two) (U : List Two) (F : List Three) (Q : List Two) (us fs qs us' fs' qs' : List ℕ) (u f q : ℕ)
    → (us' ≡ filled (flat (minus alike (rows2 U) (rows2 T))) (length us)) × (u ≡ length (flat (minus alike (rows2 U) (rows2 T))))
    → (fs' ≡ filled (flat (minus alike (rows3 F) (rows3 E))) (length fs)) × (f ≡ length (flat (minus alike (rows3 F) (rows3 E))))
    → (qs' ≡ filled (flat (minus alike (rows2 Q) (rows2 P))) (length qs)) × (q ≡ length (flat (minus alike (rows2 Q) (rows2 P))))
    → came (answer.Finished (u / 2) (f / 3) (q / 2)) us' fs' qs' ≡ lessened T E P U F Q us fs qs
removed T E P U F Q us fs qs us' fs' qs' u f q a b c =
    let x : us' ≡ filled (entries2 (minus same2 U T)) (length us) = a.0 ∙ ap (λ (l : List ℕ). filled l (length us)) (left2 U T) in
    let y : fs' ≡ filled (entries3 (minus same3 F E)) (length fs) = b.0 ∙ ap (λ (l : List ℕ). filled l (length fs)) (left3 F E) in
    let z : qs' ≡ filled (entries2 (minus same2 Q P)) (length qs) = c.0 ∙ ap (λ (l : List ℕ). filled l (length qs)) (left2 Q P) in
    rw (x, y, z, half2 u U T a.1, third3 f F E b.1, half2 q Q P c.1) refl

-- the counts of a run that finished are those of what it listed
module _ {r : Answer} {ts es ps : List ℕ} {T : List Two} {E : List Three} {P : List Two} (f : Filled r ts es ps T E P) {t e p : ℕ} (q : r ≡ answer.Finished t e p) where
  counts : (t ≡ length T) × ((e ≡ length E) × (p ≡ length P))
  counts =
      let k : answer.Finished t e p ≡ answer.Finished (length T) (length E) (length P) = sym q ∙ f.end in
      let x : t ≡ length T = cc in
      let y : e ≡ length E = cc in
      let z : p ≡ length P = cc in
      (x, (y, z))

  pub types_stand : Standing 2 (2 * t) ts (rows2 T)
  types_stand = standing2 t (length ts) ts T counts.0 f.types

  pub edges_stand : Standing 3 (3 * e) es (rows3 E)
  edges_stand = standing3 e (length es) es E counts.1.0 f.edges

  pub pairs_stand : Standing 2 (2 * p) ps (rows2 P)
  pairs_stand = standing2 p (length ps) ps P counts.1.1 f.pairs
