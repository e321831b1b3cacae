use Rattle.derivation.proofs.statement.path_fits.Goals as goal

pub one_fits-requires : goal.one_fits-requires
one_fits-requires c = let p = rw c.in-One.is at c.requires.0 in (p, c.requires.1)

pub two_fits-requires : goal.two_fits-requires
two_fits-requires c =
    let p = rw c.in-Two.is at c.requires.0 in
    (p.0, p.1, c.requires.1)

pub three_fits-requires : goal.three_fits-requires
three_fits-requires c =
    let p = rw c.in-Three.is at c.requires.0 in
    (p.0, p.1, p.2, c.requires.1)

pub returns-in-One : goal.returns-in-One
returns-in-One c = rw c.in-One.is c.one_fits.ensures

pub returns-in-Two : goal.returns-in-Two
returns-in-Two c = rw c.in-Two.is c.two_fits.ensures

pub returns-in-Three : goal.returns-in-Three
returns-in-Three c = rw c.in-Three.is c.three_fits.ensures
