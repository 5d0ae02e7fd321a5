-- A run more, at its place.
use Rattle.std.proofs.Common.{◌∙◌, List, subst, sym, arith}
use Rattle.std.proofs.lemmas.Grind.{common_steps}
use Rattle.tx_machine.specs.Runs.{AreOwn}
use Rattle.tx_machine.specs.declared.runs.Place.{Place}
use Rattle.tx_machine.specs.declared.runs.Place.TheVariants.{Reserved}
use Rattle.tx_machine.proofs.Places.{own_pushed}
use Rattle.tx_machine.proofs.runs.Runs.open.Goals as goal

pub loop-cpu-preserved : goal.loop-cpu-preserved
loop-cpu-preserved c = record {
  many = grind (arith, common_steps, c.in_ok-push.ensures.items);
  home = grind (arith, common_steps, c.in_ok-push.ensures.items);
  own = subst (λ (l : List Place). AreOwn l) (sym c.in_ok-push.ensures.items)
      (own_pushed c.loop-cpu.places.items (Reserved c.in_ok-room.room) c.loop-cpu.invariant.own
      (c.in_ok-room.ensures ∙ sym c.loop-cpu.invariant.many));
}
