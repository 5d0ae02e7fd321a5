-- What steps store: outside transactions it goes into storage, inside it waits. And what they touch is touched from then on.
use Rattle.std.proofs.Common.{◌≡◌, ℕ, zero, suc, Bool, true, false, List, [], ◌∷◌, Option}
use Rattle.std.proofs.Common.{refl, sym, ap, subst, ◌∙◌}
use Rattle.std.specs.Prelude.{◌||◌, if◌then◌else◌}
use Rattle.std.proofs.lemmas.Bool.{or_left}
use Rattle.z_regs.specs.Absolute.{absolute_ranges}
use Rattle.z_regs.specs.Cpu.{Cpu}
use Rattle.z_regs.specs.declared.ranges.Range.{Range}
use Rattle.z_instr.specs.declared.instr.Instr.{Instr}
use Rattle.z_instr.specs.Roles.{begins}
use Rattle.z_instr.specs.Table.{entry_at}
use Rattle.z_effect.specs.Outcome.{Outcome, Did, Divides, Aborts}
use Rattle.z_effect.specs.Outcome as outcome
use Rattle.line_table.specs.declared.table.Mode.{Mode}
use Rattle.tx_control.specs.declared.begins.Begin.{Begin}
use Rattle.tx_footprint.specs.Places.{stores_block}
use Rattle.tx_serial.specs.Fate.{Fate, Goes, Ends, Stops}
use Rattle.tx_progress.specs.Doing.{executed, executed_where, closed_by, stores_of}
use Rattle.tx_progress.specs.Local.{Beside}
use Rattle.tx_progress.specs.Progress.{Progress, is_live, advanced}
use Rattle.tx_progress.specs.Trial.{fate_by_progress, outcome_by}
use Rattle.tx_progress.specs.declared.done.Done.TheVariants.{Stepped}
use Rattle.tx_marks.specs.Away.{lent_by, lent_turn, ran, GoesAway, GoAway, stored, fate_stores}
use Rattle.tx_marks.specs.Places.{is_among}
use Rattle.tx_marks.specs.Stranger.{waits_at, fate_waits_at}
use Rattle.tx_marks.proofs.Along.{no_begin, fewer, last_one}
use Rattle.tx_marks.proofs.Turning.{all_left}
use Rattle.tx_run.specs.Made.{laid, fate_lays}

-- ---- where stores go

lays-stored : (f : Fate) (q : Progress) → is_live q ≡ false → fate_lays f q ≡ fate_stores f q
lays-stored (Goes instr ranges) q rests =
    sym (ap (λ b. if b then [] else fate_lays (Goes instr ranges) q) rests)
lays-stored (Ends why) q rests = refl
lays-stored (Stops e) q rests = refl

lays-waits : (f : Fate) (q : Progress) → is_live q ≡ true → fate_lays f q ≡ fate_waits_at f q
lays-waits (Goes instr ranges) q live =
    sym (ap (λ b. if b then fate_lays (Goes instr ranges) q else []) live)
lays-waits (Ends why) q live = refl
lays-waits (Stops e) q live = refl

pub laid-stored : (text : List ℕ) (held : ℕ → Option Mode) (k : ℕ) (b : Beside) (a : ℕ) → GoAway text held k b
    → is_live b.local.attempt ≡ false → laid text k b a ≡ stored text k b a
unfolding laid stored
laid-stored text held zero b a away rests = refl
laid-stored text held (suc k) b a away rests =
    let before = fewer text held k b away in
    let now = ran text k b in
    let still = (all_left text held k b before).live ∙ rests in
    let next = lays-stored (fate_by_progress text now.storage now.local.attempt) now.local.attempt still in
    (λ i. laid-stored text held k b a before rests i || is_among (next i) a)

pub laid-waits : (text : List ℕ) (held : ℕ → Option Mode) (k : ℕ) (b : Beside) (a : ℕ) → GoAway text held k b
    → is_live b.local.attempt ≡ true → laid text k b a ≡ waits_at text k b a
unfolding laid waits_at
laid-waits text held zero b a away live = refl
laid-waits text held (suc k) b a away live =
    let before = fewer text held k b away in
    let now = ran text k b in
    let still = (all_left text held k b before).live ∙ live in
    let next = lays-waits (fate_by_progress text now.storage now.local.attempt) now.local.attempt still in
    (λ i. laid-waits text held k b a before live i || is_among (next i) a)

-- ---- blocks that were touched stay touched

-- whether a block of storage is one of those that the attempt has touched
abbrev pub has : Beside → ℕ → Bool
has b block = b.local.attempt.footprint.blocks block

module _ (i : Instr) (ranges : List Range) (b : Beside) (block : ℕ) (there : has b block ≡ true) where
  closed-has : (c : Cpu) (bytes : List ℕ) (nest : List Begin)
      → (closed_by (advanced i ranges c (stores_of ranges bytes b.local.attempt) b.local.attempt) nest b).told
      ≡ Stepped
      → has (closed_by (advanced i ranges c (stores_of ranges bytes b.local.attempt) b.local.attempt) nest b).after
      block ≡ true
  closed-has c bytes [] told = absurd (cc)
  closed-has c bytes (outermost ∷ inner) told =
      or_left (has b block) (stores_block (absolute_ranges b.local.attempt.cpu.prefix ranges) block) there

  has-where : (o : Outcome) → (executed_where true false i ranges b o).told ≡ Stepped
      → has (executed_where true false i ranges b o).after block ≡ true
  has-where (Did c bytes) told =
      closed-has c bytes (advanced i ranges c (stores_of ranges bytes b.local.attempt) b.local.attempt).nest told
  has-where (outcome.Overflowed c bytes) told = absurd (cc)
  has-where Divides told = absurd (cc)
  has-where (Aborts code) told = absurd (cc)

  abbrev At : Bool → Bool → Type 0
  At live begin =
      let o = outcome_by b.storage i ranges b.local.attempt in
      (executed_where live begin i ranges b o).told ≡ Stepped
      → has (executed_where live begin i ranges b o).after block ≡ true

  executed-has : is_live b.local.attempt ≡ true → begins (entry_at i.op.number) ≡ false
      → (executed i ranges b).told ≡ Stepped → has (executed i ranges b).after block ≡ true
  unfolding executed
  executed-has live none =
      let first : At true false = has-where (outcome_by b.storage i ranges b.local.attempt) in
      let second : At true (begins (entry_at i.op.number)) = subst (At true) (sym none) first in
      subst (λ (l : Bool). At l (begins (entry_at i.op.number))) (sym live) second

turn-has : (text : List ℕ) (held : ℕ → Option Mode) (b : Beside) (block : ℕ) → is_live b.local.attempt ≡ true
    → GoesAway text held b → has b block ≡ true → has (lent_turn text b) block ≡ true
turn-has text held b block live away there =
    ap (λ f. has (lent_by f b) block) away.goes
    ∙ executed-has away.instr away.ranges b block there live (no_begin away.instr away.plain) away.told

pub turns-have : (text : List ℕ) (held : ℕ → Option Mode) (k : ℕ) (b : Beside) (block : ℕ)
    → is_live b.local.attempt ≡ true → GoAway text held k b → has b block ≡ true → has (ran text k b) block ≡ true
unfolding ran
turns-have text held zero b block live away there = there
turns-have text held (suc k) b block live away there =
    let before = fewer text held k b away in
    turn-has text held (ran text k b) block ((all_left text held k b before).live ∙ live)
    (last_one text held k b away) (turns-have text held k b block live before there)
