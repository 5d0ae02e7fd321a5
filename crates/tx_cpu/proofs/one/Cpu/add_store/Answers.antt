-- The attempt has one byte more, and all else of the CPU is as it was.
use Rattle.std.proofs.Common.{◌≡◌, ◌/◌, true, subst, sym, ap, ◌∙◌}
use Rattle.std.specs.Prelude.{nat_lt, if◌then◌else◌}
use Rattle.tx_footprint.specs.Touched.{sets_of}
use Rattle.store_cache.specs.Overlay.{with_one}
use Rattle.tx_cpu.specs.Parts.{Parts, local_of}
use Rattle.tx_cpu.specs.contracts.one.Cpu.{the_view}
use Rattle.tx_cpu.proofs.one.Cpu.add_store.Goals as goal

pub add_store-requires-clause-block : goal.add_store-requires-clause-block
add_store-requires-clause-block c =
    subst (λ (p : Parts). (sets_of p.attempt.footprint).blocks (c.args.address / 128) ≡ true) (sym c.self.view_is)
    c.requires.block

pub returns : goal.returns
returns c =
    let p = the_view c.self.inside in
    let progress = c.add_store.ensures.progress p.image in
    let count = c.add_store.ensures.count in
    (λ i. record {
      cpu = if nat_lt 0 (count i) then p.saved else p.image;
      attempt = progress i;
      pending = p.pending;
      waiting = p.waiting;
    })
    ∙ ap (λ (x : Parts). record (local_of x) {
      attempt = record (local_of x).attempt {
        overlay = with_one (local_of x).attempt.overlay c.args.address c.args.byte;
      };
    }) c.self.view_is
