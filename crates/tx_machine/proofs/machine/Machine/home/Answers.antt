-- What holds of every event holds of each turn of a run that has come home, and behind the last.
use Rattle.std.proofs.Common.{◌≡◌, ℕ, suc, ◌+◌, ◌<◌, ◌≤◌, [], ◌++◌, None, true, length, replicate, sym, ap, subst, ◌∙◌}
use Rattle.std.specs.Prelude.{◌⊎◌}
use Rattle.std.specs.Arc.{arc_value}
use Rattle.tx_journal.specs.Content.{Content}
use Rattle.tx_journal.specs.declared.events.Event.TheVariants.{Turn}
use Rattle.tx_meaning.specs.Limits.{Setting}
use Rattle.tx_meaning.specs.Meaning.{meaning}
use Rattle.tx_meaning.specs.State.{State, cpus_of, is_head}
use Rattle.tx_meaning.specs.Stretches.{counted, is_counted_turn}
use Rattle.tx_meaning.specs.Turn.{Turned, happen, turned}
use Rattle.tx_meaning.specs.Heads.{head_turns}
use Rattle.tx_meaning.specs.Views.{KeepsViews}
use Rattle.tx_meaning.specs.declared.outcome.Outcome.TheVariants.{Executed}
use Rattle.tx_opacity.specs.Opacity.{SeesOneRun}
use Rattle.tx_headline.specs.Queue.{QueueChanges}
use Rattle.tx_headline.proofs.Bounds.{turns_of_head}
use Rattle.tx_machine.specs.Lending.{unlike_in, with_turns}
use Rattle.tx_machine.specs.Machine.{Seen, Stands, setting_of, state_of, event_of}
use Rattle.tx_machine.proofs.Homes.{views_home, opaque_home, head_home, reasons_home}
use Rattle.tx_machine.proofs.Laws.{is_legal, is_held, few_hits, few_turns_left, some_turns_left, short_ages, few_before}
use Rattle.tx_machine.proofs.Read.{reads_state}
use Rattle.tx_machine.proofs.machine.Machine.home.Goals as goal

abbrev setting : goal.After-put → Setting
setting c = record { image = arc_value c.self.inside.program; limits = c.self.inside.limits }

stands : (c : goal.After-put) → Stands (setting c) c.come_home-unlike.new.works c.self.inside.externals_left
stands c =
    subst (λ (i : Content). Stands (record { image = i; limits = c.self.inside.limits }) c.come_home-unlike.new.works
    c.self.inside.externals_left) c.deref.ensures c.come_home-unlike.ensures.stands

within : (c : goal.After-put) → c.args.run.cpu < cpus_of (setting c)
within c = subst (λ (s : Seen). c.args.run.cpu < length s.image.cpus) (sym c.self.view_is) c.requires

-- each of its turns is executed
executed : (c : goal.After-put) → (j : ℕ) → unlike_in c.answer-home.result ≡ None → j < c.args.run.made.steps
    → let before = meaning (setting c) (c.self.inside.works.events ++ replicate j (Turn c.args.run.cpu)) in
    let behind = meaning (setting c) (c.self.inside.works.events ++ replicate (suc j) (Turn c.args.run.cpu)) in
    happen (setting c) (Turn c.args.run.cpu) before ≡ turned behind Executed
executed c j none lt =
    subst (λ (image : Content). let m : Setting = record { image = image; limits = c.self.inside.limits } in
    let events = c.self.inside.works.events in
    happen m (Turn c.args.run.cpu) (meaning m (events ++ replicate j (Turn c.args.run.cpu)))
    ≡ turned (meaning m (events ++ replicate (suc j) (Turn c.args.run.cpu))) Executed) c.deref.ensures
    (c.come_home-unlike.ensures.executed j (sym c.answer-home.ensures.unlike ∙ none) lt)

pub returns-clause-executed : goal.returns-clause-executed
returns-clause-executed c j none lt =
    let i = c.args.run.cpu in
    subst (λ (s : Seen). event_of (with_turns j i s) (Turn i) ≡ turned (state_of (with_turns (suc j) i s)) Executed)
    c.self.view_is (executed c j none lt)

pub returns-clause-views : goal.returns-clause-views
returns-clause-views c j none lt =
    let i = c.args.run.cpu in
    subst (λ (s : Seen). KeepsViews (setting_of s) (state_of (with_turns j i s)) (state_of (with_turns (suc j) i s)))
    c.self.view_is (views_home (setting c) c.self.inside.works _ c.self.invariant.stands i c.args.run.made.steps (within c)
    j (executed c j none lt))

pub returns-clause-opaque : goal.returns-clause-opaque
returns-clause-opaque c j none lt =
    let i = c.args.run.cpu in
    subst (λ (s : Seen). SeesOneRun (setting_of s) (state_of (with_turns j i s)) (state_of (with_turns (suc j) i s)))
    c.self.view_is (opaque_home (setting c) c.self.inside.works _ c.self.invariant.stands i c.args.run.made.steps (within c)
    j (executed c j none lt))

pub returns-clause-head : goal.returns-clause-head
returns-clause-head c j head none lt =
    let i = c.args.run.cpu in
    subst (λ (s : Seen). let before = with_turns j i s in head_turns (setting_of s) before.events head
    + counted (is_counted_turn (setting_of s) (state_of before) (Turn i) head) ≤ 34) c.self.view_is
    (head_home (setting c) c.self.inside.works _ c.self.invariant.stands i c.args.run.made.steps (within c) j head)

pub returns-clause-unrejected : goal.returns-clause-unrejected
returns-clause-unrejected c j none lt =
    let i = c.args.run.cpu in
    subst (λ (s : Seen). (event_of (with_turns j i s) (Turn i)).reject ≡ None) c.self.view_is
    (ap (λ (t : Turned). t.reject) (executed c j none lt))

pub returns-clause-reasons : goal.returns-clause-reasons
returns-clause-reasons c j none lt =
    let i = c.args.run.cpu in
    subst (λ (s : Seen). QueueChanges (setting_of s) (state_of (with_turns j i s)) (Turn i)) c.self.view_is
    (reasons_home (setting c) c.self.inside.works _ c.self.invariant.stands i c.args.run.made.steps (within c) j)

pub returns-clause-head_alone : goal.returns-clause-head_alone
returns-clause-head_alone c j head none lt =
    let i = c.args.run.cpu in
    subst (λ (s : Seen). let before = state_of (with_turns j i s) in is_counted_turn (setting_of s) before (Turn i) head ≡ true
    → (before.queue ≡ []) ⊎ (is_head before head ≡ true)) c.self.view_is
    (turns_of_head (setting c) (meaning (setting c) (c.self.inside.works.events ++ replicate j (Turn i))) (Turn i) head)

pub returns-clause-legal : goal.returns-clause-legal
returns-clause-legal c = is_legal (setting c) c.come_home-unlike.new.works _ (stands c)

pub returns-clause-held : goal.returns-clause-held
returns-clause-held c = is_held (setting c) c.come_home-unlike.new.works _ (stands c)

pub returns-clause-few : goal.returns-clause-few
returns-clause-few c i = few_hits (setting c) c.come_home-unlike.new.works _ (stands c) i

pub returns-clause-queue : goal.returns-clause-queue
returns-clause-queue c =
    ap (λ (t : State). t.queue) (reads_state (setting c) c.come_home-unlike.new.works _ (stands c))
    ∙ c.come_home-unlike.ensures.queue
    ∙ sym (ap (λ (t : State). t.queue) (reads_state (setting c) c.self.inside.works _ c.self.invariant.stands))
    ∙ ap (λ (s : Seen). (state_of s).queue) c.self.view_is

pub returns-clause-turns : goal.returns-clause-turns
returns-clause-turns c i is = few_turns_left (setting c) c.come_home-unlike.new.works _ (stands c) i is

pub returns-clause-some_left : goal.returns-clause-some_left
returns-clause-some_left c i is = some_turns_left (setting c) c.come_home-unlike.new.works _ (stands c) i is

pub returns-clause-ages : goal.returns-clause-ages
returns-clause-ages c i is = short_ages (setting c) c.come_home-unlike.new.works _ (stands c) i is

pub returns-clause-behind_few : goal.returns-clause-behind_few
returns-clause-behind_few c i waits = few_before (setting c) c.come_home-unlike.new.works _ (stands c) i waits
