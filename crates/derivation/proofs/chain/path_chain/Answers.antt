use mathlib.Core.Path.{refl}
use native.Mathlib.Omega.{arith}
use Rattle.derivation.proofs.chain.path_chain.Goals as goal

pub returns-in-Two : goal.returns-in-Two
returns-in-Two c =
    let w = rw c.in-Two.is at c.requires.1 in
    (rw c.in-Two.is refl, (omega (arith, w.0, c.requires.0.roles_top), omega (arith, w.1, c.requires.0.roles_top), omega (arith, c.requires.2, c.requires.0.roles_top)))

pub returns-in-Three : goal.returns-in-Three
returns-in-Three c =
    let w = rw c.in-Three.is at c.requires.1 in
    (rw c.in-Three.is refl, (omega (arith, w.0, c.requires.0.roles_top), omega (arith, w.1, c.requires.0.roles_top), omega (arith, w.2, c.requires.0.roles_top), omega (arith, c.requires.2, c.requires.0.roles_top)))
