use Prim.Native.Nat.{ℕ, ◌+◌, ◌<◌}
use native.Mathlib.Omega.{arith}
use native.Mathlib.Numerals.{add-one}
use mathlib.Core.Path.{◌≡◌, refl, sym, ap, ◌∙◌}
use mathlib.Core.List.{List}
use lib.ListN.{length, get_or, set, length-set}
use lib.Seq.{paste, paste-zero, paste-suc}
use Rattle.writer.proofs.Over.{over_paste}
use Rattle.writer.proofs.lay.put.Goals as goal

one_more : (d out : List ℕ) (to : ℕ) (s : List ℕ) (i x : ℕ) → out ≡ paste d to s i → get_or s i 0 ≡ x → to + i < length d → i < length s → set out (to + i) x ≡ paste d to s (i + 1)
one_more d out to s i x e v w r =
    ap (λ (l : List ℕ). set l (to + i) x) e
    ∙ (ap (set (paste d to s i) (to + i)) (sym v) ∙ (paste-suc d to s i 0 w r ∙ ap (paste d to s) (sym (add-one i))))

pub loop-i-init : goal.loop-i-init
loop-i-init c = (omega arith, paste-zero c.args.out.now c.args.to c.args.bytes.now, refl)

pub loop-i-preserved : goal.loop-i-preserved
loop-i-preserved c =
    (omega arith, one_more c.args.out.now c.loop-i.out c.args.to c.args.bytes.now c.loop-i.i _ c.loop-i.invariant.1 refl (omega arith) (omega arith), simp length-set c.loop-i.invariant.2)

pub shape_of-out : goal.shape_of-out
shape_of-out c = c.loop-i.invariant.2

pub returns : goal.returns
returns c =
    let e : c.loop-i.i ≡ length c.args.bytes.now = omega arith in
    let p : c.loop-i.out ≡ paste c.args.out.now c.args.to c.args.bytes.now (length c.args.bytes.now) = rw e at c.loop-i.invariant.1 in
    p ∙ over_paste c.args.out.now c.args.to c.args.bytes.now
