use Rattle.std.proofs.Common.{◌+◌, ◌*◌, arith}
use Rattle.std.proofs.Math.Nat.{le-mul_of_pos_right}
use Rattle.apl_items.proofs.ShapeLemmas.{place_along_below}
use Rattle.apl_items.proofs.shapes.Split.place.Goals as goal

pub overflow_mul-row : goal.overflow_mul-row
overflow_mul-row c =
    let split = c.args.self in
    let below = place_along_below split c.args.outer c.args.along c.args.inner c.requires.outer c.requires.along c.requires.inner in
    let part = le-mul_of_pos_right {m = split.inner} (c.args.outer * split.along + c.args.along) (omega (arith, c.requires.inner)) in
    omega (arith, below, part, c.requires.fits)

pub overflow_add-row : goal.overflow_add-row
overflow_add-row c =
    let split = c.args.self in
    let below = place_along_below split c.args.outer c.args.along c.args.inner c.requires.outer c.requires.along c.requires.inner in
    let part = le-mul_of_pos_right {m = split.inner} (c.args.outer * split.along + c.args.along) (omega (arith, c.requires.inner)) in
    omega (arith, below, part, c.requires.fits)

pub overflow_mul-result : goal.overflow_mul-result
overflow_mul-result c =
    let split = c.args.self in
    let below = place_along_below split c.args.outer c.args.along c.args.inner c.requires.outer c.requires.along c.requires.inner in
    omega (arith, below, c.requires.fits)

pub overflow_add-result : goal.overflow_add-result
overflow_add-result c =
    let split = c.args.self in
    let below = place_along_below split c.args.outer c.args.along c.args.inner c.requires.outer c.requires.along c.requires.inner in
    omega (arith, below, c.requires.fits)

pub returns-clause-below : goal.returns-clause-below
returns-clause-below c =
    let split = c.args.self in
    place_along_below split c.args.outer c.args.along c.args.inner c.requires.outer c.requires.along c.requires.inner
