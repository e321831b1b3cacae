-- Rows without others: what the walk over two lists leaves.
use Prim.Native.Nat.{ℕ, suc, ◌+◌, ◌-◌, ◌≤◌, ◌<◌}
use native.Mathlib.Omega.{arith}
use mathlib.Core.Path.{◌≡◌, refl, ap, ap₂, sym, ◌∙◌, subst}
use mathlib.Core.Bool.{Bool, true, false}
use mathlib.Core.List.{List, [], ◌∷◌, ◌++◌, append_assoc, append-nil}
use mathlib.Core.Logic.{inl, inr}
use lib.ListN.{length, get_or, take, drop, set, replicate, length-append, length-drop, length-set}
use lib.Seq.{take_at, drop_at, drop-drop, take-suc, take-suc-set, drop-set-lt, get_or-take, get_or-drop}
use lib.Dec.{eqb}
use borrow.Author.Tests.{eqb-true, eq-eqb}
use Rattle.book.specs.Read.{pick}
use Rattle.book.specs.Within.{Every}
use Rattle.rules.specs.Lists.{filled}
use Rattle.rules.proofs.Tests.{false_true, and_both, and_intro}
use Rattle.whatif.specs.Minus.{alike, minus, flat, Standing, Moved, Passed, Kept, Went}

-- ---- rows

pub alike_same : (x y : List ℕ) → alike x y ≡ true → x ≡ y
alike_same [] [] e = refl
alike_same [] (b ∷ y) e = false_true e
alike_same (a ∷ x) [] e = false_true e
alike_same (a ∷ x) (b ∷ y) e = let p = and_both (eqb a b) (alike x y) e in ap₂ (λ (c : ℕ) (z : List ℕ). c ∷ z) (eqb-true a b p.0) (alike_same x y p.1)

pub alike_self : (x : List ℕ) → alike x x ≡ true
alike_self [] = refl
alike_self (a ∷ x) = and_intro (eqb a a) (alike x x) (eq-eqb a a refl) (alike_self x)

pub alike_other : (x y : List ℕ) → (x ≡ y → ⊥) → alike x y ≡ false
alike_other x y n = go (alike x y) refl
  where
    go : (b : Bool) → alike x y ≡ b → b ≡ false
    go true e = absurd (n (alike_same x y e))
    go false e = refl

-- ---- entries of rows

-- rows that are the same as far as c, and there too
pub row_more : (a b : List ℕ) (i j c : ℕ) → i + c < length a → j + c < length b → take c (drop i a) ≡ take c (drop j b) → get_or a (i + c) 0 ≡ get_or b (j + c) 0 → take (c + 1) (drop i a) ≡ take (c + 1) (drop j b)
row_more a b i j c l m e f =
    let x : c + 1 ≡ suc c = omega arith in
    rw x (take-suc (drop i a) c 0 (omega (arith, length-drop i a)) ∙ (ap₂ (λ (y : List ℕ) (z : ℕ). y ++ (z ∷ [])) e (get_or-drop i a c 0 ∙ (f ∙ sym (get_or-drop j b c 0))) ∙ sym (take-suc (drop j b) c 0 (omega (arith, length-drop j b)))))

-- rows that are the same have the same entries
pub row_at_lem : (a b : List ℕ) (i j c w : ℕ) → c < w → take w (drop i a) ≡ take w (drop j b) → get_or a (i + c) 0 ≡ get_or b (j + c) 0
row_at_lem a b i j c w l e =
    sym (get_or-take w (drop i a) c 0 l ∙ get_or-drop i a c 0) ∙ (ap (λ (z : List ℕ). get_or z c 0) e ∙ (get_or-take w (drop j b) c 0 l ∙ get_or-drop j b c 0))

pub moved_none : (l : List ℕ) (i k : ℕ) → Moved l i k 0 l
moved_none l i k = record { len = refl; front = let e : k + 0 ≡ k = omega arith in rw e (sym (append-nil (take k l))); behind = refl }

pub moved_more : {l m : List ℕ} {i k c : ℕ} → Moved l i k c m → k ≤ i → i + c < length l → Moved l i k (c + 1) (set m (k + c) (get_or m (i + c) 0))
moved_more {l} {m} {i} {k} {c} a h r = record { len = length-set m (k + c) v ∙ a.len; front = rw z first; behind = rw y last }
  where
    v : ℕ
    v = get_or m (i + c) 0

    z : k + (c + 1) ≡ suc (k + c)
    z = omega arith

    y : i + (c + 1) ≡ suc (i + c)
    y = omega arith

    x : c + 1 ≡ suc c
    x = omega arith

    here : (n : List ℕ) → get_or (drop (i + c) n) 0 0 ≡ get_or n (i + c) 0
    here n = let e : i + c + 0 ≡ i + c = omega arith in get_or-drop (i + c) n 0 0 ∙ ap (λ (q : ℕ). get_or n q 0) e

    entry : v ≡ get_or (drop i l) c 0
    entry = sym (here m) ∙ (ap (λ (q : List ℕ). get_or q 0 0) a.behind ∙ (here l ∙ sym (get_or-drop i l c 0)))

    first : take (suc (k + c)) (set m (k + c) v) ≡ take k l ++ take (c + 1) (drop i l)
    first =
        take-suc-set m (k + c) v (omega (arith, a.len))
        ∙ (ap₂ (λ (p : List ℕ) (q : ℕ). p ++ (q ∷ [])) a.front entry
        ∙ (append_assoc (take k l) (take c (drop i l)) (get_or (drop i l) c 0 ∷ [])
        ∙ ap (λ (p : List ℕ). take k l ++ p) (sym (ap (λ (q : ℕ). take q (drop i l)) x ∙ take-suc (drop i l) c 0 (omega (arith, length-drop i l))))))

    one : (n : List ℕ) → drop (suc (i + c)) n ≡ drop 1 (drop (i + c) n)
    one n = let e : i + c + 1 ≡ suc (i + c) = omega arith in ap (λ (q : ℕ). drop q n) (sym e) ∙ sym (drop-drop 1 (i + c) n)

    last : drop (suc (i + c)) (set m (k + c) v) ≡ drop (suc (i + c)) l
    last = drop-set-lt (suc (i + c)) m (k + c) v (omega arith) ∙ (one m ∙ (ap (drop 1) a.behind ∙ sym (one l)))

pub standing_room : {w n : ℕ} {l : List ℕ} {xs : List (List ℕ)} → Standing w n l xs → n ≤ length l
standing_room {w} {n} {l} {xs} s = omega (arith, ap length s.front, length-append (flat xs) (drop n l), s.size)

pub went_len : {l b l' : List ℕ} {i j m k w j' k' : ℕ} → Went l i b j m k w l' j' k' → length l' ≡ length l
went_len (inl p) = ap length p.stays
went_len (inr p) = p.moved.len

-- ---- the walk

-- one row is passed over, or kept
minus_passed : (x : List ℕ) (xs : List (List ℕ)) (y : List ℕ) (ys : List (List ℕ)) → x ≡ y → minus alike (x ∷ xs) (y ∷ ys) ≡ minus alike xs ys
minus_passed x xs y ys e = ap (λ (b : Bool). pick b (minus alike xs ys) (x ∷ minus alike xs (y ∷ ys))) (subst (λ (z : List ℕ). alike x z ≡ true) e (alike_self x))

minus_kept : (x : List ℕ) (xs : List (List ℕ)) (y : List ℕ) (ys : List (List ℕ)) → (x ≡ y → ⊥) → minus alike (x ∷ xs) (y ∷ ys) ≡ x ∷ minus alike xs (y ∷ ys)
minus_kept x xs y ys n = ap (λ (b : Bool). pick b (minus alike xs ys) (x ∷ minus alike xs (y ∷ ys))) (alike_other x y n)

-- i entries of the one list and j of the other are behind the walk, and the k entries that are kept stand in front
pub record Walked (w n m : ℕ) (xs ys : List (List ℕ)) (l b : List ℕ) (i j k : ℕ) : Type 0 where
  pub rest : List (List ℕ)
  pub left : List (List ℕ)
  pub kept : List (List ℕ)
  pub rows : Every (λ x. length x ≡ w) rest
  pub lines : Every (λ x. length x ≡ w) left
  pub size : n ≡ i + length (flat rest)
  pub behind : m ≡ j + length (flat left)
  pub count : k ≡ length (flat kept)
  pub few : k ≤ i
  pub front : take k l ≡ flat kept
  pub tail : (t : List ℕ) × (drop i l ≡ flat rest ++ t)
  pub other : (t : List ℕ) × (drop j b ≡ flat left ++ t)
  pub whole : minus alike xs ys ≡ kept ++ minus alike rest left

flat_append : (xs ys : List (List ℕ)) → flat (xs ++ ys) ≡ flat xs ++ flat ys
flat_append [] ys = refl
flat_append (x ∷ xs) ys = ap (λ (z : List ℕ). x ++ z) (flat_append xs ys) ∙ sym (append_assoc x (flat xs) (flat ys))

pub walk_start : {w n m : ℕ} {xs ys : List (List ℕ)} {l b : List ℕ} → Standing w n l xs → Standing w m b ys → Walked w n m xs ys l b 0 0 0
walk_start {n = n} {m = m} {xs = xs} {ys = ys} {l = l} {b = b} s t = record {
  rest = xs;
  left = ys;
  kept = [];
  rows = s.rows;
  lines = t.rows;
  size = omega (arith, s.size);
  behind = omega (arith, t.size);
  count = refl;
  few = omega arith;
  front = refl;
  tail = (drop n l, s.front);
  other = (drop m b, t.front);
  whole = refl;
}

module _ {w n m : ℕ} {xs ys : List (List ℕ)} {l b : List ℕ} {i j k : ℕ} (a : Walked w n m xs ys l b i j k) where
  -- a row is left, on either side
  row_left : (rs : List (List ℕ)) → Every (λ x. length x ≡ w) rs → 0 < length (flat rs) → (x : List ℕ) × ((os : List (List ℕ)) × ((rs ≡ x ∷ os) × (length x ≡ w)))
  row_left [] e h = absurd (omega arith)
  row_left (x ∷ os) e h = (x, (os, (refl, e.0)))

  pub walk_room : i < n → i + w ≤ n
  walk_room h =
      let r = row_left a.rest a.rows (omega (arith, a.size)) in
      omega (arith, a.size, ap (λ (z : List (List ℕ)). length (flat z)) r.1.1.0, length-append r.0 (flat r.1.0), r.1.1.1)

  pub walk_other : j < m → j + w ≤ m
  walk_other h =
      let r = row_left a.left a.lines (omega (arith, a.behind)) in
      omega (arith, a.behind, ap (λ (z : List (List ℕ)). length (flat z)) r.1.1.0, length-append r.0 (flat r.1.0), r.1.1.1)

  pub walk_low : j ≤ m
  walk_low = omega (arith, a.behind)

  pub walk_few : k ≤ n
  walk_few = omega (arith, a.size, a.few)

-- the row that stands at the front of what is left
front_row : (w i : ℕ) (l x : List ℕ) (os : List (List ℕ)) (t : List ℕ) → drop i l ≡ (x ++ flat os) ++ t → length x ≡ w → (take w (drop i l) ≡ x) × (drop (i + w) l ≡ flat os ++ t)
front_row w i l x os t e s = (
  ap (take w) (e ∙ append_assoc x (flat os) t) ∙ take_at x (flat os ++ t) w s,
  sym (drop-drop w i l) ∙ (ap (drop w) (e ∙ append_assoc x (flat os) t) ∙ drop_at x (flat os ++ t) w s),
)

module _ {w n m : ℕ} {xs ys : List (List ℕ)} {l b : List ℕ} {i j k : ℕ} (wide : 0 < w) where
  walk_passed : (a : Walked w n m xs ys l b i j k) → (rest left : List (List ℕ)) → a.rest ≡ rest → a.left ≡ left → i < n → {l' : List ℕ} {j' k' : ℕ} → Passed l i b j m k w l' j' k' → Walked w n m xs ys l' b (i + w) j' k'
  walk_passed a [] left e f h p = absurd (omega (arith, a.size, ap (λ (z : List (List ℕ)). length (flat z)) e))
  walk_passed a (x ∷ os) [] e f h p = absurd (omega (arith, a.behind, ap (λ (z : List (List ℕ)). length (flat z)) f, p.low))
  walk_passed a (x ∷ os) (y ∷ qs) e f h {l'} {j'} {k'} p =
      let rx = subst (λ (z : List (List ℕ)). Every (λ x. length x ≡ w) z) e a.rows in
      let ry = subst (λ (z : List (List ℕ)). Every (λ x. length x ≡ w) z) f a.lines in
      let u = front_row w i l x os a.tail.0 (a.tail.1 ∙ ap (λ (z : List (List ℕ)). flat z ++ a.tail.0) e) rx.0 in
      let v = front_row w j b y qs a.other.0 (a.other.1 ∙ ap (λ (z : List (List ℕ)). flat z ++ a.other.0) f) ry.0 in
      let same : x ≡ y = sym u.0 ∙ (p.same ∙ v.0) in
      record {
        rest = os;
        left = qs;
        kept = a.kept;
        rows = rx.1;
        lines = ry.1;
        size = omega (arith, a.size, ap (λ (z : List (List ℕ)). length (flat z)) e, length-append x (flat os), rx.0);
        behind = omega (arith, a.behind, ap (λ (z : List (List ℕ)). length (flat z)) f, length-append y (flat qs), ry.0, p.next);
        count = p.here ∙ a.count;
        few = omega (arith, a.few, p.here);
        front = ap₂ take p.here p.stays ∙ a.front;
        tail = (a.tail.0, ap (drop (i + w)) p.stays ∙ u.1);
        other = (a.other.0, ap (λ (z : ℕ). drop z b) p.next ∙ v.1);
        whole = a.whole ∙ ap (λ (z : List (List ℕ)). a.kept ++ z) (ap₂ (minus alike) e f ∙ minus_passed x os y qs same);
      }

  walk_kept : (a : Walked w n m xs ys l b i j k) → (rest left : List (List ℕ)) → a.rest ≡ rest → a.left ≡ left → i < n → {l' : List ℕ} {j' k' : ℕ} → Kept l i b j m k w l' j' k' → Walked w n m xs ys l' b (i + w) j' k'
  walk_kept a [] left e f h p = absurd (omega (arith, a.size, ap (λ (z : List (List ℕ)). length (flat z)) e))
  walk_kept a (x ∷ os) left e f h {l'} {j'} {k'} p =
      let rx = subst (λ (z : List (List ℕ)). Every (λ x. length x ≡ w) z) e a.rows in
      let u = front_row w i l x os a.tail.0 (a.tail.1 ∙ ap (λ (z : List (List ℕ)). flat z ++ a.tail.0) e) rx.0 in
      record {
        rest = os;
        left = left;
        kept = a.kept ++ (x ∷ []);
        rows = rx.1;
        lines = subst (λ (z : List (List ℕ)). Every (λ x. length x ≡ w) z) f a.lines;
        size = omega (arith, a.size, ap (λ (z : List (List ℕ)). length (flat z)) e, length-append x (flat os), rx.0);
        behind = omega (arith, a.behind, ap (λ (z : List (List ℕ)). length (flat z)) f, p.here);
        count = omega (arith, p.next, a.count, ap length (more x), length-append (flat a.kept) x, rx.0);
        few = omega (arith, a.few, p.next);
        front = ap (λ (z : ℕ). take z l') p.next ∙ (p.moved.front ∙ (ap₂ (λ (y z : List ℕ). y ++ z) a.front u.0 ∙ sym (more x)));
        tail = (a.tail.0, p.moved.behind ∙ u.1);
        other = (a.other.0, ap (λ (z : ℕ). drop z b) p.here ∙ (a.other.1 ∙ ap (λ (z : List (List ℕ)). flat z ++ a.other.0) f));
        whole = a.whole ∙ (ap (λ (z : List (List ℕ)). a.kept ++ z) (ap₂ (minus alike) e f ∙ keeps left f) ∙ sym (append_assoc a.kept (x ∷ []) (minus alike os left)));
      }
    where
      more : (x : List ℕ) → flat (a.kept ++ (x ∷ [])) ≡ flat a.kept ++ x
      more x = flat_append a.kept (x ∷ []) ∙ ap (λ (z : List ℕ). flat a.kept ++ z) (append-nil x)

      keeps : (left : List (List ℕ)) → a.left ≡ left → minus alike (x ∷ os) left ≡ x ∷ minus alike os left
      keeps [] f = refl
      keeps (y ∷ qs) f =
          let ry = subst (λ (z : List (List ℕ)). Every (λ x. length x ≡ w) z) f a.lines in
          let rx = subst (λ (z : List (List ℕ)). Every (λ x. length x ≡ w) z) e a.rows in
          let u = front_row w i l x os a.tail.0 (a.tail.1 ∙ ap (λ (z : List (List ℕ)). flat z ++ a.tail.0) e) rx.0 in
          let v = front_row w j b y qs a.other.0 (a.other.1 ∙ ap (λ (z : List (List ℕ)). flat z ++ a.other.0) f) ry.0 in
          minus_kept x os y qs (λ s. p.new (omega (arith, a.behind, ap (λ (z : List (List ℕ)). length (flat z)) f, length-append y (flat qs), ry.0)) (u.0 ∙ (s ∙ sym v.0)))

  pub walk_on : Walked w n m xs ys l b i j k → i < n → {l' : List ℕ} {j' k' : ℕ} → Went l i b j m k w l' j' k' → Walked w n m xs ys l' b (i + w) j' k'
  walk_on a h (inl p) = walk_passed a a.rest a.left refl refl h p
  walk_on a h (inr p) = walk_kept a a.rest a.left refl refl h p

  -- at the end
  pub walk_end : Walked w n m xs ys l b i j k → n ≤ i → {o : List ℕ} {N : ℕ} → N ≡ length l → o ≡ take k l ++ replicate (length l - k) 0 → (o ≡ filled (flat (minus alike xs ys)) N) × (k ≡ length (flat (minus alike xs ys)))
  walk_end a h {o} {N} e q =
      let all : minus alike xs ys ≡ a.kept = a.whole ∙ (ap (λ (z : List (List ℕ)). a.kept ++ z) (none a.rest refl) ∙ append-nil a.kept) in
      let c : k ≡ length (flat (minus alike xs ys)) = a.count ∙ ap (λ (z : List (List ℕ)). length (flat z)) (sym all) in
      (q ∙ (ap₂ (λ (y : List ℕ) (z : ℕ). y ++ replicate z 0) (a.front ∙ ap flat (sym all)) (let d : length l - k ≡ N - length (flat (minus alike xs ys)) = omega (arith, e, c) in d)), c)
    where
      none : (rs : List (List ℕ)) → a.rest ≡ rs → minus alike a.rest a.left ≡ []
      none [] f = ap (λ (z : List (List ℕ)). minus alike z a.left) f
      none (x ∷ os) f =
          let rx = subst (λ (z : List (List ℕ)). Every (λ x. length x ≡ w) z) f a.rows in
          absurd (omega (arith, a.size, ap (λ (z : List (List ℕ)). length (flat z)) f, length-append x (flat os), rx.0))
