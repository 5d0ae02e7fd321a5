-- No attempt is live, the instruction is fetched, and its blocks may be touched.
use Rattle.std.proofs.Common.{rules, ◌≡◌, ℕ, ◌<◌, ◌≤◌, None, sym, ap, subst, ◌∙◌}
use Rattle.std.specs.FinSet.{FinSet, items}
use Rattle.std.specs.Ordering.{nat_cmp}
use Rattle.z_regs.specs.Cpu.{cpu_of}
use Rattle.z_instr.specs.Access.{accessible_pages, text_pages, unfetched}
use Rattle.z_instr.specs.declared.instr.Instr.{Instr}
use Rattle.tx_serial.specs.Fate.{Goes}
use Rattle.tx_progress.proofs.Parts.{not_live}
use Rattle.tx_attempt.specs.Tracked.{progress}
use Rattle.tx_cpu.specs.Pairs.{IsOpenPair, pair_ranges}
use Rattle.tx_cpu.proofs.Plainly.{unbegun-admits}
use Rattle.tx_cpu.proofs.TwoBlocks.{pair-goes}
use Rattle.tx_cpu.proofs.paired.pair_next.Goals as goal

pub returns : goal.returns
returns c =
    let t = c.args.attempt.now in
    let cpu = cpu_of c.args.image.now in
    let program = c.args.program.now in
    let r = c.in_ok-ready.ready.now in
    let p = c.in_ok-pair.pair in
    let need = pair_ranges p.store p.first p.second p.size in
    let bare : c.args.image.now.prefix ≡ None = search rules in
    let rests = c.is_sound.ensures.rests (not_live _ (sym c.is_live.ensures ∙ c.if-is_live.false)) cpu in
    let fetched = subst
    (λ (g : FinSet nat_cmp). (n : ℕ) → 0 < n → n ≤ 6
    → unfetched (accessible_pages None) (text_pages None (items g)) cpu.address n ≡ None) c.guard-guard.ensures
    (λ n some few. c.is_fetched.ensures n c.if-not-is_fetched.false some few) in
    let usable = subst (λ (g : FinSet nat_cmp). IsOpenPair p.store p.first p.second p.size (items g))
    c.guard-guard.ensures (c.are_open.ensures c.if-not-are_open.false) in
    pair-goes (items program.guard) program.storage (progress t cpu) r p.store p.first p.second p.size bare
    c.in_ok-ready.ensures (unbegun-admits t cpu r.instr need rests) fetched c.in_ok-pair.ensures.value usable
    ∙ ap (λ (i : Instr). Goes i need) (sym c.in_ok-pair.ensures.same)
