-- A word that is the same is not written; the change that is noted is one more.
use Rattle.std.proofs.Common.{ℕ, List, [], get_or, refl, sym, ap, ◌∙◌, arith}
use Rattle.std.specs.Prelude.{slice_set}
use Rattle.std.proofs.lemmas.List.{set-get_or}
use Rattle.step_changes.specs.declared.changes.Change.{Change}
use Rattle.step_changes.proofs.Changed.{adds_nothing, adds_one, set_same, set_twice}
use Rattle.step_changes.proofs.changes.note_word.Goals as goal

pub returns-then-is_same_word-clause-value : goal.returns-then-is_same_word-clause-value
returns-then-is_same_word-clause-value c =
    let table = c.args.table.now in
    let at = c.args.at in
    sym (set-get_or table at []) ∙ ap (slice_set table at) (c.is_same_word.ensures c.if-is_same_word.true)

pub returns-then-is_same_word-clause-adds : goal.returns-then-is_same_word-clause-adds
returns-then-is_same_word-clause-adds c =
    adds_nothing slice_set c.args.changes.now.items c.args.changes.now.items c.args.table.now c.args.table.now refl
    refl

pub returns-clause-adds : goal.returns-clause-adds
returns-clause-adds c =
    let table = c.args.table.now in
    let at = c.args.at in
    let old = get_or table at [] in
    let change : Change (List ℕ) = record { at = at; old = old; new = c.args.new } in
    adds_one slice_set c.args.changes.now.items c.push.new.self.items change table (slice_set table at c.args.new)
    c.in_ok-push.ensures.items refl
    (set_twice table at c.args.new old ∙ set_same table at old [] (omega arith) refl)
