use Rattle.std.proofs.Common.{refl, arith}
use Rattle.tx_meaning.specs.Shown.{commits_of, aborts_of}
use Rattle.tx_replay.proofs.Counted.{low_count, commit_ended, abort_ended}
use Rattle.tx_replay.proofs.ends.count_end.Goals as goal

pub count_one-requires : goal.count_one-requires
count_one-requires c =
    let h = c.requires.few in
    let low = low_count commits_of h.0 h.1 c.args.ends.now.commits.items c.in-Commit.cpu h.2.commits in
    omega (arith, low, h.3)

pub count_one-requires-in-Abort : goal.count_one-requires-in-Abort
count_one-requires-in-Abort c =
    let h = c.requires.few in
    let low = low_count aborts_of h.0 h.1 c.args.ends.now.aborts.items c.in-Abort.cpu h.2.aborts in
    omega (arith, low, h.3)

pub returns-in-Commit : goal.returns-in-Commit
returns-in-Commit c = λ history cpus before.
    commit_ended history c.args.entry cpus c.in-Commit.cpu _ c.args.ends.now _ c.in-Commit.is c.count_one.ensures
    refl before

pub returns-in-Abort : goal.returns-in-Abort
returns-in-Abort c = λ history cpus before.
    abort_ended history c.args.entry cpus c.in-Abort.cpu _ _ c.args.ends.now _ c.in-Abort.is
    c.count_one-in-Abort.ensures refl before
