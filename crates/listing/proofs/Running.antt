-- Each way a run ends is the defined one.
use Prim.Native.Nat.{ℕ, zero, suc, ◌+◌, ◌*◌, ◌<◌, ◌≤◌}
use native.Mathlib.Decide.{dec_lt}
use native.Mathlib.Omega.{arith}
use mathlib.Core.Path.{◌≡◌, refl, ap, sym, ◌∙◌, subst}
use mathlib.Core.Bool.{Bool, true, false, not, ◌&&◌}
use mathlib.Core.List.{List}
use lib.ListN.{length, replicate, length-replicate, length-append}
use Rattle.book.specs.Read.{pick, value, refusal}
use Rattle.book.specs.Header.{header}
use Rattle.book.specs.Book.{Book, Decoded, accepted, refused, decode}
use Rattle.book.specs.declared.header.Counts.{Counts}
use Rattle.book.proofs.Parsing.{no_value, same_value}
use Rattle.book.proofs.Accepted.{layout}
use Rattle.rules.specs.Fact.{cap, Two, two}
use Rattle.rules.specs.Rule.{Set}
use Rattle.rules.specs.ToldSame.{same}
use Rattle.rules.specs.Meaning.{conclusions}
use Rattle.rules.specs.Clash.{clashes}
use Rattle.rules.specs.Same.{same_pair}
use Rattle.rules.specs.Lists.{gather, only, types, edges, pairs, used, entries2, filled}
use Rattle.rules.specs.Ends.{End, Refused, Spent, Clash, Finished, Outcome, untouched, cleared, listing, on_decoded, outcome_from, outcome}
use Rattle.rules.proofs.Tests.{false_true}
use Rattle.rules.proofs.Least.{count_le}
use Rattle.rules.proofs.Sums.{length_gather, sum_le}
use Rattle.rules.proofs.Inside.{Inside, accepted_inside}
use Rattle.rules.proofs.Conclusions.{conclusions_own}
use Rattle.rules.proofs.Tally.{used_counted}
use Rattle.rules.proofs.Ended as plain
use Rattle.tables.specs.Open.{no_book, book_of}
use Rattle.verdict.proofs.list.Gathers.{gather_few}
use Rattle.steps.specs.Joinings.{joinings, due_count, due_of}
use Rattle.steps.proofs.Joinings.{due_counted}
use Rattle.listing.specs.declared.run.Numbers.{Numbers}
use Rattle.std.proofs.Math.Nat.{mul-le-mul_right}
use Rattle.listing.specs.Running.{numbers_of_lem, rows_for_lem, PairsFit, Ran, RunListed, ended_as}
use Rattle.listing.specs.Listing.{row_count, Ended, zeros, ended_from, ended, Listing, Lists, Left, RowsRun}
use Rattle.listing.proofs.Ended as own

-- ---- the numbers

module _ {s : List ℕ} {r : Numbers} {ts : List ℕ} (w : Ran s r ts) where
  inside : Inside (book_of s)
  inside = accepted_inside s (book_of s) w.whole

  pub ran_used : r.types + r.edges ≡ used (book_of s) (conclusions (book_of s))
  unfolding used
  ran_used = omega (arith, w.types, w.edges)

  pub ran_due : r.types + r.edges + r.joinings ≡ due_count (book_of s) (conclusions (book_of s))
  unfolding due_count
  ran_due = omega (arith, ran_used, w.joinings)

  pub ran_few : r.types + r.edges + r.joinings ≤ 17170432
  ran_few =
      omega (
        arith,
        ran_due,
        due_counted (book_of s) inside.limits (conclusions (book_of s)) (conclusions_own (book_of s) inside),
        count_le (due_of (book_of s) (conclusions (book_of s))) 17170432,
      )

  more : (b : Bool) (n m : ℕ) → 9 * (n + pick b 1 0) ≤ m → 9 * n ≤ m
  more true n m l = omega arith
  more false n m l = omega arith

  pub ran_room : {m : ℕ} → 9 * rows_for_lem r ≤ m → 9 * (r.types + r.edges + r.joinings) ≤ m
  ran_room {m} l = more r.clashes (r.types + r.edges + r.joinings) m l

  pub ran_clash : {m : ℕ} → 9 * rows_for_lem r ≤ m → r.clashes ≡ true → 9 * (r.types + r.edges + r.joinings) + 9 ≤ m
  ran_clash {m} l e = let k : 9 * (r.types + r.edges + r.joinings + 1) ≤ m = rw e at l in omega arith

-- there are no more types and edges than facts below the pairs
pub used_few : (s : List ℕ) → decode s ≡ accepted (book_of s) → used (book_of s) (conclusions (book_of s)) ≤ 16908288
used_few s e =
    let i = accepted_inside s (book_of s) e in
    omega (arith, used_counted (book_of s) i.limits (conclusions (book_of s)) (conclusions_own (book_of s) i), count_le (conclusions (book_of s)) cap)

-- of at most m individuals each has at most m same pairs
pairs_below : (B : Book) (m : ℕ) → B.counts.individuals ≤ m → length (pairs B (conclusions B)) ≤ B.counts.individuals * m
unfolding pairs
pairs_below B m l =
    omega (
      arith,
      length_gather B.counts.individuals (λ i. gather B.counts.individuals λ j. only (same_pair (conclusions B) i j) (two i j)),
      sum_le B.counts.individuals m (λ i. length (gather B.counts.individuals λ j. only (same_pair (conclusions B) i j) (two i j))) (λ i k. omega (arith, gather_few B.counts.individuals (same_pair (conclusions B) i) (two i))),
    )

pub fit_many : (s : List ℕ) → PairsFit s 524288
fit_many s B d = let l = (accepted_inside s B d).limits.individuals_top in omega (arith, l, pairs_below B 512 l)

pub fit_few : (m k : ℕ) (s : List ℕ) {h : Counts} {next : ℕ} → header s 0 ≡ value h next → h.individuals ≤ m → 2 * (m * m) ≤ k → PairsFit s k
fit_few m k s {h} {next} e l w B d =
    let q = (same_value B.counts h _ next (sym (layout s B d).head ∙ e)).0 in
    let b : B.counts.individuals ≤ m = subst (λ (g : Counts). g.individuals ≤ m) (sym q) l in
    omega (arith, w, mul-le-mul_right m b, pairs_below B m b)

pub fit_none : (k : ℕ) (s : List ℕ) {n : ℕ} → header s 0 ≡ refusal n → PairsFit s k
fit_none k s {n} e B d = no_value n B.counts _ (sym e ∙ (layout s B d).head)

-- and no more joinings than same pairs
gather_fewer : (n : ℕ) (f g : ℕ → List Two) → ((k : ℕ) → length (f k) ≤ length (g k)) → length (gather n f) ≤ length (gather n g)
gather_fewer zero f g h = omega arith
gather_fewer (suc n) f g h = omega (arith, length-append (gather n f) (f n), length-append (gather n g) (g n), h n, gather_fewer n f g h)

only_fewer : (a b : Bool) (x : Two) → length (only (a && b) x) ≤ length (only a x)
only_fewer true true x = omega arith
only_fewer true false x = omega arith
only_fewer false b x = omega arith

joinings_few : (B : Book) (S : Set) → length (joinings B S) ≤ length (pairs B S)
unfolding joinings pairs
joinings_few B S = gather_fewer B.counts.individuals _ _ (λ i. gather_fewer B.counts.individuals _ _ (λ j. only_fewer (same_pair S i j) (not (same B i j)) (two i j)))

pub no_joinings : (B : Book) (S : Set) {p : ℕ} → p ≡ length (pairs B S) → p ≡ 0 → 0 ≡ length (joinings B S)
no_joinings B S e q = omega (arith, joinings_few B S)

book_is : (s : List ℕ) (B : Book) → decode s ≡ accepted B → book_of s ≡ B
unfolding book_of
book_is s B e = ap (λ (d : Decoded). on_decoded d (λ n. no_book) (λ C. C)) e

-- ---- a run that is a clash, or finished; and what is due with a row list

module _ (s : List ℕ) (budget : ℕ) (ts es rs : List ℕ) where
  pub record Stood (o : Outcome) (r : Numbers) : Type 0 where
    pub ran : Ran s r ts
    pub types_long : length o.types ≡ length ts
    pub edges_long : length o.edges ≡ length es
    pub pairs : r.clashes ≡ false → r.pairs ≡ length (pairs (book_of s) (conclusions (book_of s)))
    pub thirteen : length rs < 9 * rows_for_lem r → ended s budget ts es (length rs) ≡ zeros ts es (Refused 13)
    pub fine : 9 * rows_for_lem r ≤ length rs
        → ended s budget ts es (length rs) ≡ record { end = ended_as r; types = pick r.clashes (replicate (length ts) 0) (filled (entries2 (types (book_of s) (conclusions (book_of s)))) (length ts)); edges = o.edges }

  abbrev clashed : ℕ → ℕ → Numbers
  clashed t e = numbers_of_lem s t e 0 true

  abbrev finished : ℕ → ℕ → ℕ → Numbers
  finished t e p = numbers_of_lem s t e p false

  abbrev pub Plainly : Outcome → End → Type 0
  Plainly o (Refused n) = ended s budget ts es (length rs) ≡ record { end = Refused n; types = o.types; edges = o.edges }
  Plainly o Spent = ended s budget ts es (length rs) ≡ record { end = Spent; types = o.types; edges = o.edges }
  Plainly o (Clash t e) = Stood o (clashed t e)
  Plainly o (Finished t e p) = Stood o (finished t e p)

  module _ (ps : List ℕ) (fit : PairsFit s (length ps)) where
    at : (y : Outcome) (x : End) → (outcome s budget ts es ps).end ≡ x → outcome s budget ts es ps ≡ y → Plainly y y.end → Plainly (outcome s budget ts es ps) x
    at y x q e p = subst (λ (z : End). Plainly (outcome s budget ts es ps) z) (ap (λ (o : Outcome). o.end) (sym e) ∙ q) (subst (λ (o : Outcome). Plainly o y.end) (sym e) p)

    module _ (a : budget ≤ 1000000) (b : 3 * budget ≤ length es) (c : 2 * budget ≤ length ts) (whole : decode s ≡ accepted (book_of s)) where
      abbrev B : Book
      B = book_of s

      is_plain : outcome s budget ts es ps ≡ outcome_from (book_of s) (conclusions (book_of s)) budget ts es ps
      is_plain = plain.accepted_book ts es ps (decode s) budget a b c (book_of s) whole

      is_own : ended s budget ts es (length rs) ≡ ended_from (book_of s) (conclusions (book_of s)) budget ts es (length rs)
      is_own = own.accepted_book ts es (length rs) s budget a b c (book_of s) whole

      abbrev T : ℕ
      T = length (types (book_of s) (conclusions (book_of s)))

      abbrev E : ℕ
      E = length (edges (book_of s) (conclusions (book_of s)))

      abbrev Q : ℕ
      Q = length (pairs (book_of s) (conclusions (book_of s)))

      all : used (book_of s) (conclusions (book_of s)) ≡ T + E
      unfolding used
      all = refl

      abbrev J : ℕ
      J = length (joinings (book_of s) (conclusions (book_of s)))

      due : (z : Bool) → clashes (book_of s) (conclusions (book_of s)) ≡ z → row_count (book_of s) (conclusions (book_of s)) ≡ T + E + J + pick z 1 0
      unfolding row_count due_count used
      due z e = rw e refl

      few_pairs : 2 * Q ≤ length ps
      few_pairs = fit (book_of s) whole

      module _ (spare : used (book_of s) (conclusions (book_of s)) ≤ budget) where
        stood_clash : clashes (book_of s) (conclusions (book_of s)) ≡ true → Stood (cleared ts es ps (Clash T E)) (clashed T E)
        stood_clash z = record {
          ran = record { whole = whole; types = refl; edges = refl; joinings = refl; clash = sym z; room = omega (arith, all) };
          types_long = length-replicate {0} {A = ℕ} (length ts) 0;
          edges_long = length-replicate {0} {A = ℕ} (length es) 0;
          pairs = λ e. false_true (sym e);
          thirteen = λ l. is_own ∙ own.thirteen_of ts es (length rs) (book_of s) (conclusions (book_of s)) budget spare (omega (arith, due true z));
          fine = λ l. is_own ∙ own.clash_of_lem ts es (length rs) (book_of s) (conclusions (book_of s)) budget spare (omega (arith, due true z)) z;
        }

        is_finished : clashes (book_of s) (conclusions (book_of s)) ≡ false → plain.IsFinished ts es ps (book_of s) (conclusions (book_of s)) budget (listing ts es ps (book_of s) (conclusions (book_of s)))
        is_finished z = record { types_fit = c; edges_fit = b; spare = spare; calm = z; pairs_fit = few_pairs; lists = refl }

        stood_finished : clashes (book_of s) (conclusions (book_of s)) ≡ false → Stood (listing ts es ps (book_of s) (conclusions (book_of s))) (finished T E Q)
        stood_finished z = record {
          ran = record { whole = whole; types = refl; edges = refl; joinings = refl; clash = sym z; room = omega (arith, all) };
          types_long = plain.types_length ts es ps (book_of s) (conclusions (book_of s)) budget (listing ts es ps (book_of s) (conclusions (book_of s))) (is_finished z);
          edges_long = plain.edges_length ts es ps (book_of s) (conclusions (book_of s)) budget (listing ts es ps (book_of s) (conclusions (book_of s))) (is_finished z);
          pairs = λ e. refl;
          thirteen = λ l. is_own ∙ own.thirteen_of ts es (length rs) (book_of s) (conclusions (book_of s)) budget spare (omega (arith, due false z));
          fine = λ l. is_own ∙ own.finished_of ts es (length rs) (book_of s) (conclusions (book_of s)) budget spare (omega (arith, due false z)) z;
        }

        by_clash_law : (z : Bool) → clashes (book_of s) (conclusions (book_of s)) ≡ z → (x : End) → (outcome s budget ts es ps).end ≡ x → Plainly (outcome s budget ts es ps) x
        by_clash_law true z x q = at (cleared ts es ps (Clash T E)) x q (is_plain ∙ plain.clash_of_lem ts es ps (book_of s) (conclusions (book_of s)) budget spare z) (stood_clash z)
        by_clash_law false z x q = at (listing ts es ps (book_of s) (conclusions (book_of s))) x q (is_plain ∙ plain.finished_of ts es ps (book_of s) (conclusions (book_of s)) budget spare z few_pairs) (stood_finished z)

      by_budget : Dec (budget < used (book_of s) (conclusions (book_of s))) → (x : End) → (outcome s budget ts es ps).end ≡ x → Plainly (outcome s budget ts es ps) x
      by_budget (yes l) x q = at (cleared ts es ps Spent) x q (is_plain ∙ plain.spent_from ts es ps (book_of s) (conclusions (book_of s)) budget l) (is_own ∙ own.spent_of ts es (length rs) (book_of s) (conclusions (book_of s)) budget l)
      by_budget (no l) x q = by_clash_law (omega arith) (clashes (book_of s) (conclusions (book_of s))) refl x q

    module _ (a : budget ≤ 1000000) (b : 3 * budget ≤ length es) (c : 2 * budget ≤ length ts) where
      by_book : (d : Decoded) → decode s ≡ d → (x : End) → (outcome s budget ts es ps).end ≡ x → Plainly (outcome s budget ts es ps) x
      by_book (refused n) e x q = at (untouched ts es ps (Refused n)) x q (plain.refused_book ts es ps (decode s) budget a b c n e) (own.refused_book ts es (length rs) s budget a b c n e)
      by_book (accepted C) e x q = by_budget a b c (e ∙ ap accepted (sym (book_is s C e))) (dec_lt budget (used (book_of s) (conclusions (book_of s)))) x q

    pub plainly : (x : End) → (outcome s budget ts es ps).end ≡ x → Plainly (outcome s budget ts es ps) x
    plainly x q = go (dec_lt 1000000 budget) (dec_lt (length es) (3 * budget)) (dec_lt (length ts) (2 * budget))
      where
        go : Dec (1000000 < budget) → Dec (length es < 3 * budget) → Dec (length ts < 2 * budget) → Plainly (outcome s budget ts es ps) x
        go (yes l) d e = at (untouched ts es ps (Refused 1)) x q (plain.refused_1 ts es ps (decode s) budget l) (own.refused_1 ts es (length rs) s budget l)
        go (no l) (yes m) e = at (untouched ts es ps (Refused 2)) x q (plain.refused_2 ts es ps (decode s) budget (omega arith) m) (own.refused_2 ts es (length rs) s budget (omega arith) m)
        go (no l) (no m) (yes k) = at (untouched ts es ps (Refused 3)) x q (plain.refused_3 ts es ps (decode s) budget (omega arith) (omega arith) k) (own.refused_3 ts es (length rs) s budget (omega arith) (omega arith) k)
        go (no l) (no m) (no k) = by_book (omega arith) (omega arith) (omega arith) (decode s) refl x q

  -- the numbers are those of the book, for the list as the run left it
  pub ran_of : (o : Outcome) (r : Numbers) {us : List ℕ} → Stood o r → us ≡ o.types → Ran s r us
  ran_of o r {us} w e = record {
    whole = w.ran.whole;
    types = w.ran.types;
    edges = w.ran.edges;
    joinings = w.ran.joinings;
    clash = w.ran.clash;
    room = omega (arith, w.ran.room, ap length e, w.types_long);
  }

  -- ---- the promise

  pub run_early : (o : Outcome) (n : ℕ) {us fs : List ℕ} → Plainly o (Refused n) → us ≡ o.types → fs ≡ o.edges → RowsRun s budget ts es rs (record { end = Refused n; types = us; edges = fs }) rs
  run_early o n p a b = record { outcome = rw (a, b) (sym p); rows = refl }

  pub run_spent : (o : Outcome) {us fs : List ℕ} → Plainly o Spent → us ≡ o.types → fs ≡ o.edges → RowsRun s budget ts es rs (record { end = Spent; types = us; edges = fs }) rs
  run_spent o p a b = record { outcome = rw (a, b) (sym p); rows = refl }

  left_as : (c : Bool) (t e p : ℕ) {l : List ℕ} → Lists s (length rs) l → Left s (pick c (Clash t e) (Finished t e p)) rs l
  left_as true t e p w = w
  left_as false t e p w = w

  pub run_rows : (o : Outcome) (r : Numbers) {us fs : List ℕ} {x : Ended} {l : List ℕ} → Stood o r → us ≡ o.types → fs ≡ o.edges → RunListed s r us fs rs x l → RowsRun s budget ts es rs x l
  run_rows o r {us} {fs} {x} {l} w a b f = go (dec_lt (length rs) (9 * rows_for_lem r))
    where
      same_types : length us ≡ length ts
      same_types = ap length a ∙ w.types_long

      same_edges : length fs ≡ length es
      same_edges = ap length b ∙ w.edges_long

      lists : Listing (book_of s) (conclusions (book_of s)) (length rs) l → Lists s (length rs) l
      lists k C d = subst (λ (D : Book). Listing D (conclusions D) (length rs) l) (book_is s C d) k

      go : Dec (length rs < 9 * rows_for_lem r) → RowsRun s budget ts es rs x l
      go (yes m) =
          let p = f.refused m in
          record {
            outcome = p.0 ∙ (rw (same_types, same_edges) refl ∙ sym (w.thirteen m));
            rows = subst (λ (y : Ended). Left s y.end rs l) (sym p.0) p.1;
          }
      go (no m) =
          let p = f.listed (omega arith) in
          record {
            outcome = p.0 ∙ (rw (same_types, b) refl ∙ sym (w.fine (omega arith)));
            rows = subst (λ (y : Ended). Left s y.end rs l) (sym p.0) (left_as r.clashes r.types r.edges r.pairs (lists p.1));
          }
