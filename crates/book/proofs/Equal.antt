-- Accepted books with equal counts, apart from that of the statements, and equal concept records have equal concepts.
use Prim.Native.Nat.{ℕ, ◌+◌, ◌-◌, ◌≤◌, ◌<◌}
use native.Mathlib.Omega.{arith}
use mathlib.Core.Path.{◌≡◌, refl, sym, ap, ap₂, ◌∙◌}
use mathlib.Core.List.{List, []}
use lib.ListN.{length, get_or, take}
use lib.Seq.{get_or-take, get_or-drop, length-slice}
use Rattle.book.specs.declared.header.Counts.{Counts}
use Rattle.book.specs.Read.{value}
use Rattle.book.specs.Header.{counting, SameCounts}
use Rattle.book.specs.Book.{Book, concepts, accepted, decode, concept_offset, concept_bytes}
use Rattle.book.proofs.Parsing.{same_value}
use Rattle.book.proofs.header.Laws.{header_goes}
use Rattle.book.proofs.Accepted.{Layout, layout, offset_is}
use Rattle.book.proofs.Local.{across, Agrees, local_concepts, forward_concepts, concepts_same}

-- the concept records of an accepted book, entry by entry
module _ (s : List ℕ) (b : Book) (whole : decode s ≡ accepted b) where
  abbrev pub lay : Layout s b whole
  lay = layout s b whole

  pub first_offset : concept_offset s 0 ≡ lay.at
  unfolding concepts
  first_offset = offset_is s b whole 0 lay.at [] refl

  pub last_offset : concept_offset s b.counts.concepts ≡ lay.start
  last_offset = offset_is s b whole b.counts.concepts lay.start b.concepts lay.trees

  pub header_inside : lay.at ≤ length s
  header_inside = (header_goes s 0 b.counts lay.at lay.head).1

  pub records_go : (lay.at ≤ lay.start) × (lay.start ≤ length s)
  records_go = let g = forward_concepts b.counts b.counts.concepts s lay.at b.concepts lay.start header_inside lay.trees in (omega (arith, g.0), g.1)

  pub records_length : length (concept_bytes s b) ≡ lay.start - lay.at
  unfolding concept_bytes
  records_length = rw (first_offset, last_offset) (length-slice lay.at lay.start s records_go.1)

  pub records_entry : (i : ℕ) → lay.at + i < lay.start → get_or (concept_bytes s b) i 0 ≡ get_or s (lay.at + i) 0
  unfolding concept_bytes
  records_entry i l = rw (first_offset, last_offset) (get_or-drop lay.at (take lay.start s) i 0 ∙ get_or-take lay.start s (lay.at + i) 0 l)

  -- the concepts are read wherever their records stand
  pub records_read : (t : List ℕ) (to : ℕ) → to + length (concept_bytes s b) ≤ length t → ((i : ℕ) → i < length (concept_bytes s b) → get_or (concept_bytes s b) i 0 ≡ get_or t (to + i) 0)
      → (n : ℕ) → concepts (counting b.counts n) b.counts.concepts t to ≡ value b.concepts (to + length (concept_bytes s b))
  records_read t to room same n =
      let z : across lay.at to lay.start ≡ to + length (concept_bytes s b) = omega (arith, records_length) in
      let agrees : Agrees s t lay.at lay.start to = (λ i u v.
      let x : lay.at + (i - lay.at) ≡ i = omega arith in
      ap (λ (j : ℕ). get_or s j 0) (sym x) ∙ (sym (records_entry (i - lay.at) (omega arith)) ∙ same (i - lay.at) (omega (arith, records_length)))) in
      concepts_same b.counts b.counts.concepts n t to
      ∙ ((local_concepts b.counts b.counts.concepts).moves s t lay.at b.concepts lay.start to header_inside (omega (arith, z)) agrees lay.trees
      ∙ ap (value b.concepts) z)

pub same_concepts : (s t : List ℕ) (b c : Book) → decode s ≡ accepted b → decode t ≡ accepted c → SameCounts b.counts c.counts → concept_bytes s b ≡ concept_bytes t c → b.concepts ≡ c.concepts
same_concepts s t b c p q counts bytes =
    let there = lay t c q in
    let long : length (concept_bytes s b) ≡ length (concept_bytes t c) = ap length bytes in
    let room : there.at + length (concept_bytes s b) ≤ length t = omega (arith, long, records_length t c q, (records_go t c q).0, (records_go t c q).1) in
    let same : (i : ℕ) → i < length (concept_bytes s b) → get_or (concept_bytes s b) i 0 ≡ get_or t (there.at + i) 0 = (λ i l. ap (λ (m : List ℕ). get_or m i 0) bytes ∙ records_entry t c q i (omega (arith, long, records_length t c q))) in
    let h : counting b.counts c.counts.statements ≡ c.counts = (λ i. record { classes = counts.classes i; roles = counts.roles i; individuals = counts.individuals i; concepts = counts.concepts i; statements = c.counts.statements }) in
    let read : concepts c.counts c.counts.concepts t there.at ≡ value b.concepts (there.at + length (concept_bytes s b)) = ap₂ (λ (g : Counts) (n : ℕ). concepts g n t there.at) (sym h) (sym counts.concepts) ∙ records_read s b p t there.at room same c.counts.statements in
    (same_value b.concepts c.concepts (there.at + length (concept_bytes s b)) there.start (sym read ∙ there.trees)).0
