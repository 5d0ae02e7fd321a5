-- Those of an instruction that goes.
use Rattle.std.proofs.Common.{ℕ, ◌+◌, ◌≤◌, List, refl, sym, ap, subst, ◌∙◌, Option, None}
use Rattle.std.specs.Prelude.{All}
use Rattle.z_regs.specs.Prefix.{storage_size}
use Rattle.z_regs.specs.Absolute.{absolute_ranges, IsAccessible}
use Rattle.z_regs.specs.declared.ranges.Range.{Range}
use Rattle.tx_program.specs.Shapes.{touched_by}
use Rattle.tx_serial.specs.Fate.{Fate}
use Rattle.tx_works.specs.Wanted.{operands_of}
use Rattle.tx_works.specs.Works.{kept_by}
use Rattle.tx_works.proofs.Seats.{no_seat}
use Rattle.tx_works.proofs.Lined.{no_limits}
use Rattle.tx_works.proofs.Plainly.{touched-places}
use Rattle.tx_works.proofs.Wanted.{nothing-wanted}
use Rattle.tx_needs.proofs.SmallPlaces.{ranges-small, ranges-inside, accessible-places}
use Rattle.tx_works.proofs.works.Works.operands_wanted.Goals as goal

pub operand_places-requires-clause-few : goal.operand_places-requires-clause-few
operand_places-requires-clause-few c =
    let w = c.requires.wants no_seat no_limits in
    (w.reach _ c.in-Go.need (sym w.text ∙ sym ((c.in-Go.ensures).value no_seat no_limits))).few

pub operand_places-requires-clause-accessible : goal.operand_places-requires-clause-accessible
operand_places-requires-clause-accessible c =
    let w = c.requires.wants no_seat no_limits in
    subst (λ (p : Option ℕ). All (IsAccessible p) c.in-Go.need) (sym (c.prefix-prefix.ensures.value no_seat))
    (w.reach _ c.in-Go.need (sym w.text ∙ sym ((c.in-Go.ensures).value no_seat no_limits))).accessible

pub returns-in-Go-clause-value : goal.returns-in-Go-clause-value
returns-in-Go-clause-value c rest limits =
    let k = kept_by rest c.args.self.now in
    let prefix = (k.locals c.args.cpu).attempt.cpu.prefix in
    c.operand_places.ensures.value
    ∙ ap (λ (p : Option ℕ). absolute_ranges p c.in-Go.need) (c.prefix-prefix.ensures.value rest)
    ∙ ap (λ (f : Fate). absolute_ranges prefix (operands_of f))
    ((c.in-Go.ensures).value rest limits ∙ (c.requires.wants rest limits).text)

pub returns-in-Ends-clause-value : goal.returns-in-Ends-clause-value
returns-in-Ends-clause-value c rest limits =
    let k = kept_by rest c.args.self.now in
    let prefix = (k.locals c.args.cpu).attempt.cpu.prefix in
    c.none-in-Ends.ensures
    ∙ ap (λ (f : Fate). absolute_ranges prefix (operands_of f))
    ((c.in-Ends.ensures).value rest limits ∙ (c.requires.wants rest limits).text)

pub returns-in-Stops-clause-value : goal.returns-in-Stops-clause-value
returns-in-Stops-clause-value c rest limits =
    let k = kept_by rest c.args.self.now in
    let prefix = (k.locals c.args.cpu).attempt.cpu.prefix in
    c.none-in-Stops.ensures
    ∙ ap (λ (f : Fate). absolute_ranges prefix (operands_of f))
    ((c.in-Stops.ensures).value rest limits ∙ (c.requires.wants rest limits).text)

-- ---- a plain instruction

pub returns-in-Some-clause-value : goal.returns-in-Some-clause-value
returns-in-Some-clause-value c rest limits =
    let k = kept_by rest c.args.self.now in
    let prefix = (k.locals c.args.cpu).attempt.cpu.prefix in
    let p = c.in-Some.plain in
    c.operands_at.ensures
    ∙ touched-places p.ready.now.shape.touch p.first p.ready.now.shape.size prefix (c.in-Some.ensures.quiet rest).prefix
    ∙ ap (λ (f : Fate). absolute_ranges prefix (operands_of f))
    (sym (c.in-Some.ensures.goes rest limits) ∙ (c.requires.wants rest limits).text)

pub returns-in-Some-clause-small : goal.returns-in-Some-clause-small
returns-in-Some-clause-small c =
    let w = c.requires.wants no_seat no_limits in
    let p = c.in-Some.plain in
    let s = p.ready.now.shape in
    let need = touched_by s.touch p.first s.size in
    let reach = w.reach p.ready.now.instr need (sym w.text ∙ c.in-Some.ensures.goes no_seat no_limits) in
    subst (λ (rs : List Range). All (λ (r : Range). r.length ≤ 256) rs)
    (sym (c.operands_at.ensures ∙ touched-places s.touch p.first s.size None refl))
    (ranges-small None need refl (accessible-places _ need reach.accessible))

pub returns-in-Some-clause-in_storage : goal.returns-in-Some-clause-in_storage
returns-in-Some-clause-in_storage c =
    let w = c.requires.wants no_seat no_limits in
    let p = c.in-Some.plain in
    let s = p.ready.now.shape in
    let need = touched_by s.touch p.first s.size in
    let reach = w.reach p.ready.now.instr need (sym w.text ∙ c.in-Some.ensures.goes no_seat no_limits) in
    subst (λ (rs : List Range). All (λ (r : Range). r.first + r.length ≤ storage_size) rs)
    (sym (c.operands_at.ensures ∙ touched-places s.touch p.first s.size None refl))
    (ranges-inside None need refl (accessible-places _ need reach.accessible))

-- ---- an instruction without an operand

pub returns-then-touches_nothing-clause-value : goal.returns-then-touches_nothing-clause-value
returns-then-touches_nothing-clause-value c rest limits =
    let k = kept_by rest c.args.self.now in
    let prefix = (k.locals c.args.cpu).attempt.cpu.prefix in
    c.none.ensures
    ∙ ap (absolute_ranges prefix) (sym (nothing-wanted _ (λ i need goes.
    c.touches_nothing.ensures rest limits i need c.if-touches_nothing.true goes)))
    ∙ ap (λ (f : Fate). absolute_ranges prefix (operands_of f)) (c.requires.wants rest limits).text
