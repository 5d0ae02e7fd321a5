-- What holds behind every event holds behind a turn.
use Rattle.std.proofs.Common.{◌≡◌, ◌<◌, true, sym, subst, length}
use Rattle.std.specs.Arc.{arc_value}
use Rattle.tx_journal.specs.Content.{Content}
use Rattle.tx_journal.specs.declared.events.Event.TheVariants.{Turn}
use Rattle.tx_meaning.specs.Idle.{is_ready}
use Rattle.tx_meaning.specs.Limits.{Setting}
use Rattle.tx_meaning.specs.Meaning.{meaning}
use Rattle.tx_meaning.specs.State.{cpus_of}
use Rattle.tx_meaning.specs.Turn.{happen}
use Rattle.tx_machine.specs.Machine.{Seen, Stands, setting_of, state_of}
use Rattle.tx_machine.proofs.Behind.{Comes, grows, keeps_views, sees_one_run, moves_queue, changes_queue}
use Rattle.tx_machine.proofs.Behind.{head_alone, few_of_head, head_unrejected}
use Rattle.tx_machine.proofs.Laws.{is_legal, is_held, few_hits, few_turns_left, some_turns_left, short_ages, few_before}
use Rattle.tx_machine.proofs.machine.Machine.turn.Goals as goal

abbrev setting : goal.After-advance_ready → Setting
setting c = record { image = arc_value c.self.inside.program; limits = c.self.inside.limits }

stands : (c : goal.After-advance_ready) → Stands (setting c) c.advance_ready.new.works c.self.inside.externals_left
stands c =
    subst (λ (i : Content). Stands (record { image = i; limits = c.self.inside.limits }) c.advance_ready.new.works
    c.self.inside.externals_left) c.deref.ensures c.advance_ready.ensures.stands

comes : (c : goal.After-advance_ready) → Comes (setting c) c.self.inside.works c.self.inside.externals_left (Turn c.args.cpu)
    (meaning (setting c) c.advance_ready.new.works.events)
comes c = record {
  stands = c.self.invariant.stands;
  known = subst (λ (s : Seen). c.args.cpu < length s.image.cpus) (sym c.self.view_is) c.requires.known;
  means =
      subst (λ (i : Content). let m : Setting = record { image = i; limits = c.self.inside.limits } in
      (happen m (Turn c.args.cpu) (meaning m c.self.inside.works.events)).state ≡ meaning m c.advance_ready.new.works.events)
      c.deref.ensures (sym c.advance_ready.ensures.state);
}

pub advance_ready-requires-clause-stands : goal.advance_ready-requires-clause-stands
advance_ready-requires-clause-stands c =
    subst (λ (i : Content). Stands (record { image = i; limits = c.self.inside.limits }) c.self.inside.works
    c.self.inside.externals_left) (sym c.deref.ensures) c.self.invariant.stands

pub advance_ready-requires-clause-ready : goal.advance_ready-requires-clause-ready
advance_ready-requires-clause-ready c =
    subst (λ (i : Content). let m : Setting = record { image = i; limits = c.self.inside.limits } in
    is_ready m (meaning m c.self.inside.works.events) c.args.cpu ≡ true) (sym c.deref.ensures)
    (subst (λ (s : Seen). is_ready (setting_of s) (state_of s) c.args.cpu ≡ true) (sym c.self.view_is) c.requires.ready)

pub returns-clause-legal : goal.returns-clause-legal
returns-clause-legal c = is_legal (setting c) c.advance_ready.new.works _ (stands c)

pub returns-clause-grows : goal.returns-clause-grows
returns-clause-grows c = grows _ _ _ _ _ (comes c) _ _ _ c.self.view_is

pub returns-clause-views : goal.returns-clause-views
returns-clause-views c = keeps_views _ _ _ _ _ (comes c) _ _ _ c.self.view_is

pub returns-clause-opaque : goal.returns-clause-opaque
returns-clause-opaque c = sees_one_run _ _ _ _ _ (comes c) _ _ _ c.self.view_is

pub returns-clause-held : goal.returns-clause-held
returns-clause-held c = is_held (setting c) c.advance_ready.new.works _ (stands c)

pub returns-clause-few : goal.returns-clause-few
returns-clause-few c i = few_hits (setting c) c.advance_ready.new.works _ (stands c) i

pub returns-clause-queue : goal.returns-clause-queue
returns-clause-queue c = moves_queue _ _ _ _ _ (comes c) _ _ _ c.self.view_is

pub returns-clause-turns : goal.returns-clause-turns
returns-clause-turns c i is = few_turns_left (setting c) c.advance_ready.new.works _ (stands c) i is

pub returns-clause-some_left : goal.returns-clause-some_left
returns-clause-some_left c i is = some_turns_left (setting c) c.advance_ready.new.works _ (stands c) i is

pub returns-clause-ages : goal.returns-clause-ages
returns-clause-ages c i is = short_ages (setting c) c.advance_ready.new.works _ (stands c) i is

pub returns-clause-behind_few : goal.returns-clause-behind_few
returns-clause-behind_few c i waits = few_before (setting c) c.advance_ready.new.works _ (stands c) i waits

pub returns-clause-reasons : goal.returns-clause-reasons
returns-clause-reasons c = changes_queue _ _ _ _ _ (comes c) _ _ _ c.self.view_is

pub returns-clause-head_alone : goal.returns-clause-head_alone
returns-clause-head_alone c = head_alone _ _ _ _ _ (comes c) _ _ _ c.self.view_is

pub returns-clause-head : goal.returns-clause-head
returns-clause-head c i = few_of_head _ _ _ _ _ (comes c) _ _ _ c.self.view_is i

pub returns-clause-unrejected : goal.returns-clause-unrejected
returns-clause-unrejected c = head_unrejected _ _ _ _ _ (comes c) _ _ _ c.self.view_is
