-- One entry more.
use Rattle.std.proofs.Common.{◌≡◌, ◌+◌, ◌++◌, take, sym, ap, ◌∙◌, subst, arith, false, append_assoc}
use Rattle.std.specs.List.{flat_map}
use Rattle.std.proofs.lemmas.List.{take_all, get_or_default}
use Rattle.std.proofs.Common.{get_or}
use Rattle.tx_journal.specs.declared.entries.Entry.TheVariants.{Step}
use Rattle.tx_journal.specs.declared.entries.Entry.{Entry}
use Rattle.tx_heat.specs.Conflicts.{aborts_by, conflict_where}
use Rattle.tx_heat.specs.Watched.{AreCounted, HasRoom}
use Rattle.tx_heat.proofs.Counted.{aborts_more}
use Rattle.tx_heat.proofs.following.count_aborts.Goals as goal

pub loop-entry-preserved : goal.loop-entry-preserved
loop-entry-preserved c =
    let k = c.loop-entry.entry-index in
    let entries = c.args.entries.now in
    let x : Entry = get_or entries k (Step 0) in record {
      counted = λ m s e found tracks asked counted.
          let f = λ (y : Entry). aborts_by m s e y in
          let before = c.loop-entry.invariant.counted m s e found tracks asked counted in
          let one = c.count_at.ensures.counted m s e (found ++ flat_map f (take k entries)) tracks asked before in
          let same : (found ++ flat_map f (take k entries)) ++ conflict_where m s e false c.abort_in.result
          ≡ found ++ flat_map f (take (k + 1) entries) =
          append_assoc found (flat_map f (take k entries)) (conflict_where m s e false c.abort_in.result)
          ∙ ap (λ at. found ++ (flat_map f (take k entries) ++ conflict_where m s e false at)) c.abort_in.ensures
          ∙ ap (λ l. found ++ l) (sym (aborts_more f entries k x c.loop-entry-test.true
          (get_or_default entries k x (Step 0) c.loop-entry-test.true))) in
          subst (AreCounted c.count_at.new.lines) same one;
      room = λ n room.
          let same : n + (k + 1) ≡ (n + 1) + k = omega arith in
          c.count_at.ensures.room n (c.loop-entry.invariant.room (n + 1)
          (subst (HasRoom c.args.lines.now) same room));
    }

pub returns-clause-counted : goal.returns-clause-counted
returns-clause-counted c = λ m s e found tracks asked counted.
    subst (λ xs. AreCounted c.loop-entry.lines (found ++ flat_map (aborts_by m s e) xs))
    (take_all c.loop-entry.entry-index c.args.entries.now (omega arith))
    (c.loop-entry.invariant.counted m s e found tracks asked counted)
