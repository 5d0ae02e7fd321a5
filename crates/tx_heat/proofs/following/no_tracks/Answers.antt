-- Nobody has touched anything at the start.
use Rattle.std.proofs.Common.{◌∷◌, [], ◌∙◌, List, refl, sym, ap, arith, length, length-append}
use Rattle.std.specs.Prelude.{slice_get}
use Rattle.tx_meaning.specs.State.{beginning}
use Rattle.tx_heat.specs.Watched.{Tracked, IsUnused}
use Rattle.tx_heat.proofs.Passing.{unused_track, pushed}
use Rattle.tx_heat.proofs.following.no_tracks.Goals as goal

pub returns-clause-tracks : goal.returns-clause-tracks
returns-clause-tracks c = λ m. record {
  each = λ j t e. unused_track m beginning j t (c.loop-cpu.invariant.none j t e) refl;
  beyond = λ j lt. refl;
}

pub loop-cpu-preserved : goal.loop-cpu-preserved
loop-cpu-preserved c =
    let items = c.in_ok-push.ensures.items in
    let xs = c.loop-cpu.tracks.items in
    let x : Tracked = c.in_ok-none.field-0 in
    let size = ap length items in
    let longer = length-append xs (x ∷ []) in
    let count = c.loop-cpu.invariant.count in record {
      none = λ j t e.
          pushed IsUnused xs x c.loop-cpu.invariant.none c.in_ok-none.ensures j t
          (ap (λ (l : List Tracked). slice_get l j) (sym items) ∙ e);
      count = omega (arith, size, longer, count);
    }
