use mathlib.Core.Path.{refl, ap}
use native.Mathlib.Omega.{arith}
use Rattle.rules.proofs.Facts.{flipped_id}
use Rattle.derivation.specs.declared.chain.Chain.TheVariants.{Fillers}
use Rattle.derivation.proofs.Chaining.{alone_tag}
use Rattle.derivation.proofs.chain.chain_of.Goals as goal

pub path_chain-requires : goal.path_chain-requires
path_chain-requires c = let w = rw c.in-SubObjectPropertyOf.is at c.requires.1 in (c.requires.0, w.0, w.1)

pub returns-in-SubObjectPropertyOf : goal.returns-in-SubObjectPropertyOf
returns-in-SubObjectPropertyOf c = (rw c.in-SubObjectPropertyOf.is c.path_chain.ensures.0, c.path_chain.ensures.1)

pub returns-in-TransitiveRole : goal.returns-in-TransitiveRole
returns-in-TransitiveRole c =
    let w = rw c.in-TransitiveRole.is at c.requires.1 in
    (rw c.in-TransitiveRole.is refl, (omega (arith, w, c.requires.0.roles_top), omega (arith, w, c.requires.0.roles_top), omega (arith, w, c.requires.0.roles_top)))

pub returns-in-FunctionalRole : goal.returns-in-FunctionalRole
returns-in-FunctionalRole c = let w = rw c.in-FunctionalRole.is at c.requires.1 in (rw c.in-FunctionalRole.is refl, omega (arith, w, c.requires.0.roles_top))

pub returns-in-InverseFunctionalRole : goal.returns-in-InverseFunctionalRole
returns-in-InverseFunctionalRole c =
    let w = rw c.in-InverseFunctionalRole.is at c.requires.1 in
    (rw c.in-InverseFunctionalRole.is (ap Fillers c.flip.ensures), rw (c.flip.ensures, flipped_id c.in-InverseFunctionalRole.r) (omega (arith, w, c.requires.0.roles_top)))

pub returns-in_default : goal.returns-in_default
returns-in_default c = (alone_tag c.args.statement c.in_default.in_default-own.keys5, tt)
