-- The block, the interruption, or the next instruction.
use Rattle.std.proofs.Common.{ℕ, ap, ◌∙◌, Option, [], ◌∷◌}
use Rattle.z_regs.specs.Absolute.{absolute_ranges}
use Rattle.tx_progress.specs.Trial.{fate_by_progress}
use Rattle.tx_keeping.specs.Kept.{text_of}
use Rattle.tx_meaning.specs.Limits.{Setting}
use Rattle.tx_meaning.specs.Needs.{stored}
use Rattle.tx_works.specs.Wanted.{wanted_by, real_ranges}
use Rattle.tx_works.specs.Works.{kept_by}
use Rattle.tx_works.proofs.Seats.{no_seat}
use Rattle.tx_works.proofs.Lined.{no_limits, block-inside}
use Rattle.tx_works.proofs.Wanted.{block-wanted, taken-places, next-wanted}
use Rattle.tx_works.proofs.works.Works.wanted.Goals as goal

pub block_places-requires-clause-inside : goal.block_places-requires-clause-inside
block_places-requires-clause-inside c =
    let l = (kept_by no_seat c.args.self.now).locals c.args.cpu in
    block-inside l.pending c.in-Some.address (c.requires.wants no_seat no_limits).inside ((c.in-Some.ensures) no_seat)

pub returns-in-Some-clause-value : goal.returns-in-Some-clause-value
unfolding wanted_by
returns-in-Some-clause-value c rest limits =
    let m : Setting = record { image = c.args.program.now; limits = limits } in
    let k = kept_by rest c.args.self.now in
    let l = k.locals c.args.cpu in
    let next = fate_by_progress (text_of m) k.storage l.attempt in
    c.block_places.ensures.value
    ∙ ap (λ (p : Option ℕ). absolute_ranges p (stored c.in-Some.address 256 ∷ [])) (c.prefix-prefix.ensures.value rest)
    ∙ ap (absolute_ranges l.attempt.cpu.prefix)
    (block-wanted l.pending l.waiting next c.in-Some.address ((c.in-Some.ensures) rest))

pub returns-in-Some-awaited-clause-value : goal.returns-in-Some-awaited-clause-value
unfolding wanted_by
returns-in-Some-awaited-clause-value c rest limits =
    let m : Setting = record { image = c.args.program.now; limits = limits } in
    let k = kept_by rest c.args.self.now in
    let l = k.locals c.args.cpu in
    let next = fate_by_progress (text_of m) k.storage l.attempt in
    taken-places c.prefix-prefix.result c.in-Some-awaited.block l.pending l.waiting next c.interruption_places.result
    ((c.in_default.ensures) rest) ((c.in-Some-awaited.ensures) rest) c.interruption_places.ensures.value
    ∙ ap (λ (p : Option ℕ). absolute_ranges p (real_ranges l.pending l.waiting next))
    (c.prefix-prefix.ensures.value rest)

pub returns-clause-value : goal.returns-clause-value
unfolding wanted_by
returns-clause-value c rest limits =
    let m : Setting = record { image = c.args.program.now; limits = limits } in
    let k = kept_by rest c.args.self.now in
    let l = k.locals c.args.cpu in
    let next = fate_by_progress (text_of m) k.storage l.attempt in
    c.operands_wanted.ensures.value rest limits
    ∙ ap (absolute_ranges l.attempt.cpu.prefix)
    (next-wanted l.pending l.waiting next ((c.in_default.ensures) rest) ((c.in_default-awaited.ensures) rest))
