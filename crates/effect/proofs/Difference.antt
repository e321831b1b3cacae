-- The run that lists a difference: it ends as the run itself does, and where both finish its lists are what the run has and P has not.
use Prim.Native.Nat.{ℕ, ◌-◌, ◌*◌, ◌<◌}
use native.Mathlib.Omega.{arith}
use mathlib.Core.Path.{◌≡◌, refl, ap, sym, ◌∙◌, subst}
use mathlib.Core.Bool.{Bool, true, false, not, ◌&&◌}
use mathlib.Core.List.{List, ◌++◌}
use lib.ListN.{length, replicate}
use lib.Dec.{ltb}
use Rattle.book.specs.Read.{pick}
use Rattle.book.specs.Within.{Every}
use Rattle.book.specs.Book.{Book, Decoded, refused, accepted}
use Rattle.book.specs.declared.role.Role.TheVariants.{Named}
use Rattle.rules.specs.Fact.{edge, type, pair, Two, Three}
use Rattle.rules.specs.Rule.{Set}
use Rattle.rules.specs.Meaning.{conclusions}
use Rattle.rules.specs.Same.{same_pair}
use Rattle.rules.specs.Clash.{clashes}
use Rattle.rules.specs.Lists.{types, edges, pairs, used, entries2, entries3}
use Rattle.rules.specs.Ends.{Refused, Spent, Clash, Finished, Outcome, untouched, cleared, listing, ends_with, outcome_from, on_decoded, outcome_of, Lists2, Lists3}
use Rattle.rules.proofs.Tests.{false_true, and_both, and_intro}
use Rattle.rules.proofs.Listed.{lists2_true, lists3_true, in_lists2, in_lists3, types_every, edges_every, pairs_every, in_types, in_edges, in_pairs}
use Rattle.effect.specs.Effect.{less, news, difference}

not-false : (b : Bool) → not b ≡ true → b ≡ false
not-false true q = false_true q
not-false false q = refl

false_not : (b : Bool) → b ≡ false → not b ≡ true
false_not true q = false_true (sym q)
false_not false q = refl

and-false : (b : Bool) → (b && false) ≡ false
and-false true = refl
and-false false = refl

-- a pair of numbers that stands in a list of a known length
listed2 : (Q : ℕ → ℕ → Type 0) (l : List Two) → Every (λ x. Q x.one x.other) l → (n : ℕ) (m : List ℕ) → m ≡ entries2 l ++ replicate (n - length (entries2 l)) 0 → (k : ℕ) → length l ≡ k → (a b : ℕ) → Lists2 m k a b → Q a b
listed2 Q l h n m q k r a b x = lists2_true Q l h _ a b (subst (λ (y : ℕ). Lists2 (entries2 l ++ replicate (n - length (entries2 l)) 0) y a b) (sym r) (subst (λ (y : List ℕ). Lists2 y k a b) q x))

listed3 : (Q : ℕ → ℕ → ℕ → Type 0) (l : List Three) → Every (λ x. Q x.role x.one x.other) l → (n : ℕ) (m : List ℕ) → m ≡ entries3 l ++ replicate (n - length (entries3 l)) 0 → (k : ℕ) → length l ≡ k → (r a b : ℕ) → Lists3 m k r a b → Q r a b
listed3 Q l h n m q k c r a b x = lists3_true Q l h _ r a b (subst (λ (y : ℕ). Lists3 (entries3 l ++ replicate (n - length (entries3 l)) 0) y r a b) (sym c) (subst (λ (y : List ℕ). Lists3 y k r a b) q x))

module _ (P : Set) (budget : ℕ) (ts es ps : List ℕ) where
  -- what is listed as new in the set S of the book C
  module _ (C : Book) (S : Set) (o : Outcome) (is : o ≡ news ts es ps C S P) (t e p : ℕ) (ended : o.end ≡ Finished t e p) where
    abbrev n : ℕ
    n = C.counts.individuals

    abbrev N : Set
    N = less S (P)

    same_end : Finished (length (types C N)) (length (edges C N)) (length (pairs C N)) ≡ Finished t e p
    same_end = sym (ap (λ (x : Outcome). x.end) is) ∙ ended

    type_count_law : length (types C N) ≡ t
    type_count_law = let q = same_end in cc

    edge_count : length (edges C N) ≡ e
    edge_count = let q = same_end in cc

    pair_count_law : length (pairs C N) ≡ p
    pair_count_law = let q = same_end in cc

    -- the two halves of being new
    fresh : (f : ℕ) → N f ≡ true → (S f ≡ true) × (P f ≡ false)
    fresh f q = let a = and_both (S f) (not (P f)) q in (a.0, not-false (P f) a.1)

    newly : (f : ℕ) → S f ≡ true → P f ≡ false → N f ≡ true
    newly f a b = and_intro (S f) (not (P f)) a (false_not (P f) b)

    pub new_types : (Q : ℕ → ℕ → Type 0) → ((i c : ℕ) → i < n → c < C.counts.classes → S (type i c) ≡ true → P (type i c) ≡ false → Q i c) → (i c : ℕ) → Lists2 o.types t i c → Q i c
    new_types Q f = listed2 Q (types C N) (types_every C N Q (λ i c k l q. let a = fresh (type i c) q in f i c k l a.0 a.1)) (length ts) o.types (ap (λ (x : Outcome). x.types) is) t type_count_law

    pub new_edges : (Q : ℕ → ℕ → ℕ → Type 0) → ((r a b : ℕ) → r < C.counts.roles → a < n → b < n → S (edge (Named r) a b) ≡ true → P (edge (Named r) a b) ≡ false → Q r a b) → (r a b : ℕ) → Lists3 o.edges e r a b → Q r a b
    new_edges Q f = listed3 Q (edges C N) (edges_every C N Q (λ r a b j k l q. let x = fresh (edge (Named r) a b) q in f r a b j k l x.0 x.1)) (length es) o.edges (ap (λ (x : Outcome). x.edges) is) e edge_count

    pair_fresh : (i j : ℕ) → same_pair N i j ≡ true → (same_pair S i j ≡ true) × (same_pair P i j ≡ false)
    unfolding same_pair
    pair_fresh i j q =
        let a = and_both (ltb i j) (N (pair i j)) q in
        let b = fresh (pair i j) a.1 in
        (and_intro (ltb i j) (S (pair i j)) a.0 b.0, ap (λ (x : Bool). ltb i j && x) b.1 ∙ and-false (ltb i j))

    pair_newly : (i j : ℕ) → same_pair S i j ≡ true → same_pair P i j ≡ false → same_pair N i j ≡ true
    unfolding same_pair
    pair_newly i j a b =
        let q = and_both (ltb i j) (S (pair i j)) a in
        let out : P (pair i j) ≡ false = sym (ap (λ (x : Bool). x && P (pair i j)) q.0) ∙ b in
        and_intro (ltb i j) (N (pair i j)) q.0 (newly (pair i j) q.1 out)

    pub new_pairs : (Q : ℕ → ℕ → Type 0) → ((i j : ℕ) → i < n → j < n → same_pair S i j ≡ true → same_pair P i j ≡ false → Q i j) → (i j : ℕ) → Lists2 o.pairs p i j → Q i j
    new_pairs Q f = listed2 Q (pairs C N) (pairs_every C N Q (λ i j k l q. let a = pair_fresh i j q in f i j k l a.0 a.1)) (length ps) o.pairs (ap (λ (x : Outcome). x.pairs) is) p pair_count_law

    -- and nothing new is left out
    pub type_listed : (i c : ℕ) → i < n → c < C.counts.classes → S (type i c) ≡ true → P (type i c) ≡ false → Lists2 o.types t i c
    type_listed i c k l a b =
        subst (λ (x : List ℕ). Lists2 x t i c) (sym (ap (λ (x : Outcome). x.types) is))
        (subst (λ (x : ℕ). Lists2 (entries2 (types C N) ++ replicate (length ts - length (entries2 (types C N))) 0) x i c) type_count_law (in_lists2 (types C N) _ i c (in_types C N i c k l (newly (type i c) a b))))

    pub edge_listed : (r a b : ℕ) → r < C.counts.roles → a < n → b < n → S (edge (Named r) a b) ≡ true → P (edge (Named r) a b) ≡ false → Lists3 o.edges e r a b
    edge_listed r a b j k l x y =
        subst (λ (z : List ℕ). Lists3 z e r a b) (sym (ap (λ (z : Outcome). z.edges) is))
        (subst (λ (z : ℕ). Lists3 (entries3 (edges C N) ++ replicate (length es - length (entries3 (edges C N))) 0) z r a b) edge_count (in_lists3 (edges C N) _ r a b (in_edges C N r a b j k l (newly (edge (Named r) a b) x y))))

    pub pair_listed : (i j : ℕ) → i < n → j < n → same_pair S i j ≡ true → same_pair P i j ≡ false → Lists2 o.pairs p i j
    pair_listed i j k l a b =
        subst (λ (x : List ℕ). Lists2 x p i j) (sym (ap (λ (x : Outcome). x.pairs) is))
        (subst (λ (x : ℕ). Lists2 (entries2 (pairs C N) ++ replicate (length ps - length (entries2 (pairs C N))) 0) x i j) pair_count_law (in_lists2 (pairs C N) _ i j (in_pairs C N i j k l (pair_newly i j a b))))

  abbrev Last : Book → Bool → Bool → Bool → Outcome → Outcome
  Last C a b c o =
      pick a (cleared ts es ps Spent)
      (pick b (cleared ts es ps (Clash (length (types C (conclusions C))) (length (edges C (conclusions C)))))
      (pick c (cleared ts es ps (Refused 11)) o))

  abbrev Run : Decoded → Bool → Bool → Bool → (Book → Outcome) → Outcome
  Run d a b c go =
      pick a (untouched ts es ps (Refused 1))
      (pick b (untouched ts es ps (Refused 2))
      (pick c (untouched ts es ps (Refused 3)) (on_decoded d (λ n. untouched ts es ps (Refused n)) go)))

  abbrev fresh_in : Book → Outcome
  fresh_in C = news ts es ps C (conclusions C) P

  -- where it finishes, its lists are those of what is new
  finished_last : (C : Book) (t e p : ℕ) (a b c : Bool) → (Last C a b c (fresh_in C)).end ≡ Finished t e p → Last C a b c (fresh_in C) ≡ fresh_in C
  finished_last C t e p true b c q = absurd (let o : ◌≡◌ {A = ℕ} 0 1 = cc in omega arith)
  finished_last C t e p false true c q = absurd (let o : ◌≡◌ {A = ℕ} 0 1 = cc in omega arith)
  finished_last C t e p false false true q = absurd (let o : ◌≡◌ {A = ℕ} 0 1 = cc in omega arith)
  finished_last C t e p false false false q = refl

  abbrev ending : Book → Outcome
  ending C = ends_with C (conclusions C) budget ts es ps (fresh_in C)

  finished_run : (d : Decoded) (t e p : ℕ) (a b c : Bool) → (Run d a b c ending).end ≡ Finished t e p → (C : Book) × (d ≡ accepted C) × (Run d a b c ending ≡ fresh_in C)
  finished_run d t e p true b c q = absurd (let o : ◌≡◌ {A = ℕ} 0 1 = cc in omega arith)
  finished_run d t e p false true c q = absurd (let o : ◌≡◌ {A = ℕ} 0 1 = cc in omega arith)
  finished_run d t e p false false true q = absurd (let o : ◌≡◌ {A = ℕ} 0 1 = cc in omega arith)
  finished_run (refused n) t e p false false false q = absurd (let o : ◌≡◌ {A = ℕ} 0 1 = cc in omega arith)
  finished_run (accepted C) t e p false false false q = (C, refl, finished_last C t e p (ltb budget (used C (conclusions C))) (clashes C (conclusions C)) (ltb (length ps) (2 * length (pairs C (conclusions C)))) q)

  pub difference_lists : (d : Decoded) (t e p : ℕ) → (difference d P budget ts es ps).end ≡ Finished t e p → (C : Book) × (d ≡ accepted C) × (difference d P budget ts es ps ≡ news ts es ps C (conclusions C) P)
  unfolding difference
  difference_lists d t e p q = finished_run d t e p (ltb 1000000 budget) (ltb (length es) (3 * budget)) (ltb (length ts) (2 * budget)) q

  -- At every end but finished it is the run itself, lists included; and it finishes exactly where the run does.
  pub data AsRun : Outcome → Outcome → Type 0 where
    as_run : {o : Outcome} → AsRun o o
    both_finish : {o c : Outcome} (t e p t' e' p' : ℕ) → o.end ≡ Finished t e p → c.end ≡ Finished t' e' p' → AsRun o c

  as_last : (C : Book) (a b c : Bool) → AsRun (Last C a b c (fresh_in C)) (Last C a b c (listing ts es ps C (conclusions C)))
  as_last C true b c = as_run
  as_last C false true c = as_run
  as_last C false false true = as_run
  as_last C false false false = both_finish _ _ _ _ _ _ refl refl

  as_run_lem : (d : Decoded) (a b c : Bool) → AsRun (Run d a b c ending) (Run d a b c λ C. outcome_from C (conclusions C) budget ts es ps)
  unfolding outcome_from
  as_run_lem d true b c = as_run
  as_run_lem d false true c = as_run
  as_run_lem d false false true = as_run
  as_run_lem (refused n) false false false = as_run
  as_run_lem (accepted C) false false false = as_last C (ltb budget (used C (conclusions C))) (clashes C (conclusions C)) (ltb (length ps) (2 * length (pairs C (conclusions C))))

  pub difference_run : (d : Decoded) → AsRun (difference d P budget ts es ps) (outcome_of d budget ts es ps)
  unfolding difference outcome_of
  difference_run d = as_run_lem d (ltb 1000000 budget) (ltb (length es) (3 * budget)) (ltb (length ts) (2 * budget))

  -- so code may run the copy: where that does not finish it has the difference, and where it does, the lists are of what is new
  pub difference_same : (d : Decoded) → ((t e p : ℕ) → (outcome_of d budget ts es ps).end ≡ Finished t e p → ⊥) → difference d P budget ts es ps ≡ outcome_of d budget ts es ps
  difference_same d f = go (difference_run d) f
    where
      go : {o c : Outcome} → AsRun o c → ((t e p : ℕ) → c.end ≡ Finished t e p → ⊥) → o ≡ c
      go as_run g = refl
      go (both_finish t e p t' e' p' q r) g = absurd (g t' e' p' r)

  pub difference_news : (d : Decoded) (C : Book) → d ≡ accepted C → (t e p : ℕ) → (outcome_of d budget ts es ps).end ≡ Finished t e p → difference d P budget ts es ps ≡ news ts es ps C (conclusions C) P
  difference_news d C accepts t e p q =
      let f = finishes (difference_run d) t e p q in
      let l = difference_lists d f.0 f.1 f.2 f.3 in
      let same : l.0 ≡ C = (let z : accepted l.0 ≡ accepted C = sym l.1 ∙ accepts in cc) in
      l.2 ∙ ap (λ (Z : Book). news ts es ps Z (conclusions Z) P) same
    where
      finishes : {o c : Outcome} → AsRun o c → (t e p : ℕ) → c.end ≡ Finished t e p → (t' : ℕ) × (e' : ℕ) × (p' : ℕ) × (o.end ≡ Finished t' e' p')
      finishes as_run t e p r = (t, e, p, r)
      finishes (both_finish t e p t' e' p' x y) a b c r = (t, e, p, x)

  -- a clash of the difference is one of the run
  pub difference_clash : (d : Decoded) (t e : ℕ) → (difference d P budget ts es ps).end ≡ Clash t e → (outcome_of d budget ts es ps).end ≡ Clash t e
  difference_clash d t e q = go (difference_run d) q
    where
      go : {o c : Outcome} → AsRun o c → o.end ≡ Clash t e → c.end ≡ Clash t e
      go as_run r = r
      go (both_finish a b c x y z u v) r = absurd (let w : Finished a b c ≡ Clash t e = sym u ∙ r in let k : ◌≡◌ {A = ℕ} 0 1 = cc in omega arith)
