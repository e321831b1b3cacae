-- A statement that is not refused keeps to the counts, source and days too, and takes at least three bytes.
use Prim.Native.Nat.{ℕ, zero, suc, ◌/◌, ◌%◌, ◌≤◌, ◌<◌}
use native.Mathlib.Omega.{arith}
use native.Mathlib.Decide.{dec_lt}
use mathlib.Core.Path.{◌≡◌, refl, sym, ap, ◌∙◌, subst}
use mathlib.Core.Bool.{Bool, true, false, not, ◌||◌}
use mathlib.Core.List.{List}
use mathlib.Core.Logic.{◌⊎◌, ⊎_elim}
use lib.ListN.{get_or}
use lib.Dec.{ltb, leb, eqb, lit<}
use borrow.Author.Tests.{leb-true, ltb-true, eqb-true, eqb-false, not-true}
use Rattle.book.specs.declared.header.Counts.{Counts}
use Rattle.book.specs.Table.{Start}
use Rattle.book.specs.declared.statement.Statement.{Statement}
use Rattle.book.specs.Read.{value}
use Rattle.book.specs.Table.{statement_allows_lem}
use Rattle.book.specs.Field.{byte, two_bytes_lem, fields}
use Rattle.book.specs.Statement.{statement_start_lem, statement_limits, unmarked, path_of_lem, denial, axiom_kinds, axiom_of_lem, statement_of_lem, statement_end_lem, statement_rest_lem, statement}
use Rattle.book.specs.Within.{Within, StatementWithin}
use Rattle.book.proofs.Parsing.{came, held, same_value, Goes}
use Rattle.book.proofs.role.Laws.{role_below}
use Rattle.book.proofs.field.Laws.{byte_goes, two_goes, bit_at, fields_range, fields_goes}

-- kind and map: the map is one of the kind's, and three bytes are passed
module _ (s : List ℕ) (at : ℕ) (x : Start) (next : ℕ) (read : statement_start_lem s at ≡ value x next) where
  pub record StartKnown : Type 0 where
    pub kind_some : x.kind ≡ 0 → ⊥
    pub kind_known : x.kind < 17
    pub map_top : x.map < 2048
    pub map_known : statement_allows_lem x.kind (x.map % 256) ≡ true
    pub goes : Goes 3 s at next

  pub start_known : StartKnown
  unfolding statement_start_lem
  start_known =
      let a = came (byte s at) _ x next read in
      let z = held (not (eqb a.0 0)) 7 s a.1 _ x next a.3 in
      let b = held (ltb a.0 17) 7 s a.1 _ x next z.1 in
      let c = came (two_bytes_lem s a.1) _ x next b.1 in
      let m = held (ltb c.0 2048) 8 s c.1 _ x next c.3 in
      let d = held (statement_allows_lem a.0 (c.0 % 256)) 8 s c.1 _ x next m.1 in
      let y : Start = record { kind = a.0; map = c.0 } in
      let e = same_value y x c.1 next d.1 in
      let g = byte_goes s at a.0 a.1 a.2 in
      let g' = two_goes s a.1 c.0 c.1 c.2 in
      let some : y.kind ≡ 0 → ⊥ = eqb-false a.0 0 (not-true (eqb a.0 0) z.0) in
      let known : statement_allows_lem y.kind (y.map % 256) ≡ true = d.0 in
      record {
        kind_some = subst (λ (w : Start). w.kind ≡ 0 → ⊥) e.0 some;
        kind_known = subst (λ (w : Start). w.kind < 17) e.0 (ltb-true a.0 17 b.0);
        map_top = subst (λ (w : Start). w.map < 2048) e.0 (ltb-true c.0 2048 m.0);
        map_known = subst (λ (w : Start). statement_allows_lem w.kind (w.map % 256) ≡ true) e.0 known;
        goes = (omega (arith, g.0, g'.0, e.1), omega (arith, g'.1, e.1));
      }

-- the rule of the table: the fields that a kind's statement takes are those whose bits stand in each of the kind's maps
module _ (h : Counts) (v : List ℕ) where
  abbrev start : ℕ → ℕ → Start
  start kind map = record { kind = kind; map = map }

  abbrev Keeps : ℕ → ℕ → Type 0
  Keeps kind map = ((j : ℕ) → j < 16 → (bit_at map j ≡ 0 → ⊥) → get_or v j 0 < get_or (statement_limits h) j 0) → Within h (axiom_of_lem (start kind map) v)

  -- a map that fits one of three places
  one_of_lem : (kind map a b c : ℕ) → (eqb map a || eqb map b || eqb map c) ≡ true → Keeps kind a → Keeps kind b → Keeps kind c → Keeps kind map
  one_of_lem kind map a b c t x y z = go (eqb map a) (eqb map b) (eqb map c) refl refl refl t
    where
      go : (p q r : Bool) → eqb map a ≡ p → eqb map b ≡ q → eqb map c ≡ r → (p || q || r) ≡ true → Keeps kind map
      go true q r e f g t = subst (Keeps kind) (sym (eqb-true map a e)) x
      go false true r e f g t = subst (Keeps kind) (sym (eqb-true map b f)) y
      go false false true e f g t = subst (Keeps kind) (sym (eqb-true map c g)) z
      go false false false e f g t = absurd (let o : ◌≡◌ {A = ℕ} 0 1 = cc in omega arith)

  only : (kind map a : ℕ) → (eqb map a || eqb map a || eqb map a) ≡ true → Keeps kind a → Keeps kind map
  only kind map a t x = one_of_lem kind map a a a t x x x

  pub kinds_keep : (kind map : ℕ) → (kind ≡ 0 → ⊥) → kind < 17 → statement_allows_lem kind map ≡ true → Keeps kind map
  unfolding axiom_of_lem path_of_lem statement_allows_lem
  kinds_keep zero map d l t = absurd (d refl)
  kinds_keep (suc zero) map d l t = only 1 map 0x30 t (λ f. (f 4 (lit< tt) (omega arith), f 5 (lit< tt) (omega arith)))
  kinds_keep (suc (suc zero)) map d l t = only 2 map 0x30 t (λ f. (f 4 (lit< tt) (omega arith), f 5 (lit< tt) (omega arith)))
  kinds_keep (suc (suc (suc zero))) map d l t = only 3 map 0x30 t (λ f. (f 4 (lit< tt) (omega arith), f 5 (lit< tt) (omega arith)))
  kinds_keep (suc (suc (suc (suc zero)))) map d l t = only 4 map 0x03 t (λ f. (role_below _ _ (f 0 (lit< tt) (omega arith)), role_below _ _ (f 1 (lit< tt) (omega arith))))
  kinds_keep (suc (suc (suc (suc (suc zero))))) map d l t =
      one_of_lem 5 map 0x09 0x0B 0x0F t
      (λ f. (role_below _ _ (f 0 (lit< tt) (omega arith)), role_below _ _ (f 3 (lit< tt) (omega arith))))
      (λ f. ((role_below _ _ (f 0 (lit< tt) (omega arith)), role_below _ _ (f 1 (lit< tt) (omega arith))), role_below _ _ (f 3 (lit< tt) (omega arith))))
      (λ f. ((role_below _ _ (f 0 (lit< tt) (omega arith)), role_below _ _ (f 1 (lit< tt) (omega arith)), role_below _ _ (f 2 (lit< tt) (omega arith))), role_below _ _ (f 3 (lit< tt) (omega arith))))
  kinds_keep (suc (suc (suc (suc (suc (suc zero)))))) map d l t = only 6 map 0x01 t (λ f. role_below _ _ (f 0 (lit< tt) (omega arith)))
  kinds_keep (suc (suc (suc (suc (suc (suc (suc zero))))))) map d l t = only 7 map 0x01 t (λ f. role_below _ _ (f 0 (lit< tt) (omega arith)))
  kinds_keep (suc (suc (suc (suc (suc (suc (suc (suc zero)))))))) map d l t = only 8 map 0x01 t (λ f. role_below _ _ (f 0 (lit< tt) (omega arith)))
  kinds_keep (suc (suc (suc (suc (suc (suc (suc (suc (suc zero))))))))) map d l t = only 9 map 0x01 t (λ f. role_below _ _ (f 0 (lit< tt) (omega arith)))
  kinds_keep (suc (suc (suc (suc (suc (suc (suc (suc (suc (suc zero)))))))))) map d l t = only 10 map 0x11 t (λ f. (role_below _ _ (f 0 (lit< tt) (omega arith)), f 4 (lit< tt) (omega arith)))
  kinds_keep (suc (suc (suc (suc (suc (suc (suc (suc (suc (suc (suc zero))))))))))) map d l t = only 11 map 0x11 t (λ f. (role_below _ _ (f 0 (lit< tt) (omega arith)), f 4 (lit< tt) (omega arith)))
  kinds_keep (suc (suc (suc (suc (suc (suc (suc (suc (suc (suc (suc (suc zero)))))))))))) map d l t = only 12 map 0xC0 t (λ f. (f 6 (lit< tt) (omega arith), f 7 (lit< tt) (omega arith)))
  kinds_keep (suc (suc (suc (suc (suc (suc (suc (suc (suc (suc (suc (suc (suc zero))))))))))))) map d l t = only 13 map 0x50 t (λ f. (f 4 (lit< tt) (omega arith), f 6 (lit< tt) (omega arith)))
  kinds_keep (suc (suc (suc (suc (suc (suc (suc (suc (suc (suc (suc (suc (suc (suc zero)))))))))))))) map d l t = only 14 map 0xC1 t (λ f. (role_below _ _ (f 0 (lit< tt) (omega arith)), f 6 (lit< tt) (omega arith), f 7 (lit< tt) (omega arith)))
  kinds_keep (suc (suc (suc (suc (suc (suc (suc (suc (suc (suc (suc (suc (suc (suc (suc zero))))))))))))))) map d l t = only 15 map 0xC0 t (λ f. (f 6 (lit< tt) (omega arith), f 7 (lit< tt) (omega arith)))
  kinds_keep (suc (suc (suc (suc (suc (suc (suc (suc (suc (suc (suc (suc (suc (suc (suc (suc zero)))))))))))))))) map d l t = only 16 map 0xC1 t (λ f. (role_below _ _ (f 0 (lit< tt) (omega arith)), f 6 (lit< tt) (omega arith), f 7 (lit< tt) (omega arith)))
  kinds_keep (suc (suc (suc (suc (suc (suc (suc (suc (suc (suc (suc (suc (suc (suc (suc (suc (suc k))))))))))))))))) map d l t = absurd (omega arith)

-- the bits of a map's low byte are bits of the map
no_bit : (j : ℕ) → bit_at 0 j ≡ 0
no_bit zero = refl
no_bit (suc j) = no_bit j

pub low_bits : (map j : ℕ) → j < 8 → bit_at (map % 256) j ≡ bit_at map j
low_bits map zero l = omega arith
low_bits map (suc zero) l = omega arith
low_bits map (suc (suc zero)) l = omega arith
low_bits map (suc (suc (suc zero))) l = omega arith
low_bits map (suc (suc (suc (suc zero)))) l = omega arith
low_bits map (suc (suc (suc (suc (suc zero))))) l = omega arith
low_bits map (suc (suc (suc (suc (suc (suc zero)))))) l = omega arith
low_bits map (suc (suc (suc (suc (suc (suc (suc zero))))))) l = omega arith
low_bits map (suc (suc (suc (suc (suc (suc (suc (suc j)))))))) l = absurd (omega arith)

high_bits : (map j : ℕ) → 8 ≤ j → bit_at (map % 256) j ≡ 0
high_bits map (suc (suc (suc (suc (suc (suc (suc (suc j)))))))) l =
    let z : map % 256 / 2 / 2 / 2 / 2 / 2 / 2 / 2 / 2 ≡ 0 = omega arith in
    ap (λ (m : ℕ). bit_at m j) z ∙ no_bit j
high_bits map zero l = absurd (omega arith)
high_bits map (suc zero) l = absurd (omega arith)
high_bits map (suc (suc zero)) l = absurd (omega arith)
high_bits map (suc (suc (suc zero))) l = absurd (omega arith)
high_bits map (suc (suc (suc (suc zero)))) l = absurd (omega arith)
high_bits map (suc (suc (suc (suc (suc zero))))) l = absurd (omega arith)
high_bits map (suc (suc (suc (suc (suc (suc zero)))))) l = absurd (omega arith)
high_bits map (suc (suc (suc (suc (suc (suc (suc zero))))))) l = absurd (omega arith)

low_bit : (map j : ℕ) → (bit_at (map % 256) j ≡ 0 → ⊥) → bit_at map j ≡ 0 → ⊥
low_bit map j f e = go (dec_lt j 8)
  where
    go : Dec (j < 8) → ⊥
    go (yes l) = f (low_bits map j l ∙ e)
    go (no n) = f (high_bits map j (omega arith))

pub axiom_low : (kind map : ℕ) (v : List ℕ) → axiom_of_lem (record { kind = kind; map = map % 256 }) v ≡ axiom_of_lem (record { kind = kind; map = map }) v
unfolding axiom_of_lem
axiom_low kind map v = let q : map % 256 % 256 ≡ map % 256 = omega arith in ap (λ (m : ℕ). get_or (axiom_kinds m v) kind (denial v)) q

module _ (s : List ℕ) (h : Counts) (at : ℕ) (x : Statement) (next : ℕ) (read : statement h s at ≡ value x next) where
  -- what a statement went through
  pub record Through : Type 0 where
    pub start : Start
    pub then : ℕ
    pub started : statement_start_lem s at ≡ value start then
    pub values : List ℕ
    pub run : fields start.map (statement_limits h) unmarked 9 s then ≡ value values next
    pub period : get_or values 9 0 ≤ get_or values 10 0
    pub made : statement_of_lem start values ≡ x

  pub through : Through
  unfolding statement statement_rest_lem statement_end_lem
  through =
      let a = came (statement_start_lem s at) _ x next read in
      let b = came (fields a.0.map (statement_limits h) unmarked 9 s a.1) _ x next a.3 in
      let o = held (leb (get_or b.0 9 0) (get_or b.0 10 0)) 16 s b.1 _ x next b.3 in
      let e = same_value (statement_of_lem a.0 b.0) x b.1 next o.1 in
      record {
        start = a.0;
        then = a.1;
        started = a.2;
        values = b.0;
        run = b.2 ∙ ap (value b.0) e.1;
        period = leb-true (get_or b.0 9 0) (get_or b.0 10 0) o.0;
        made = e.0;
      }

  -- a field that is not there has its absent value
  ranged : (j : ℕ) → j < 16 → (get_or through.values j 0 < get_or (statement_limits h) j 0) ⊎ ((bit_at through.start.map j ≡ 0) × (get_or through.values j 0 ≡ get_or unmarked j 0))
  ranged j l = fields_range (statement_limits h) 9 s through.values next through.start.map unmarked through.then refl through.run j l

  pub statement_within : StatementWithin h x
  statement_within =
      let t = through in
      let k = start_known s at t.start t.then t.started in
      subst (StatementWithin h) t.made
      (record {
        body =
            subst (Within h) (axiom_low t.start.kind t.start.map t.values)
            (kinds_keep h t.values t.start.kind (t.start.map % 256) k.kind_some k.kind_known k.map_known
            (λ j l set. ⊎_elim (λ low. low) (λ gone. absurd (low_bit t.start.map j set gone.0)) (ranged j l)));
        source_top = ⊎_elim (λ low. low) (λ gone. omega (arith, gone.1)) (ranged 8 (lit< tt));
        period = t.period;
        last_top = ⊎_elim (λ low. low) (λ gone. omega (arith, gone.1)) (ranged 10 (lit< tt));
      })

  pub statement_goes : Goes 3 s at next
  statement_goes =
      let t = through in
      let k = start_known s at t.start t.then t.started in
      let g = fields_goes (statement_limits h) 9 s t.values next t.start.map unmarked t.then k.goes.1 t.run in
      (omega (arith, k.goes.0, g.0), g.1)
