-- What always holds of what is kept of a CPU.
use Rattle.std.proofs.Common.{◌≡◌, ◌≢◌, ℕ, suc, ◌+◌, ◌/◌, Bool, true, false, List, [], ◌∷◌}
use Rattle.std.proofs.Common.{Option, Some, None, refl, sym, ap, subst, ◌∙◌, arith, length}
use Rattle.std.specs.Prelude.{if◌then◌else◌, nat_lt, is_none, is_some, ◌==◌}
use Rattle.std.proofs.lemmas.Bool.{true≢false, and_parts, or_left, or_right}
use Rattle.z_regs.specs.Cpu.{Cpu}
use Rattle.z_regs.specs.Prefix.{is_prefix}
use Rattle.z_regs.specs.declared.image.RunState.{RunState}
use Rattle.z_regs.specs.declared.image.RunState.TheVariants.{Running, Halted, Interrupted}
use Rattle.z_effect.specs.One.{length_of}
use Rattle.tx_control.specs.Nesting.{is_constrained}
use Rattle.tx_control.specs.declared.begins.Begin.{Begin}
use Rattle.tx_constraint.specs.Constraints.{Step}
use Rattle.tx_constraint.specs.Kept.{Kept, kept}
use Rattle.tx_constraint.proofs.Attempts.{few_steps, few_octowords}
use Rattle.tx_footprint.specs.Sizes.{line_size, block_size}
use Rattle.tx_serial.specs.Overlay.{Overlay, Store, nothing, with_one}
use Rattle.tx_serial.specs.Apply.{is_running}
use Rattle.tx_serial.specs.Attempt.{Run, attempt_of}
use Rattle.tx_serial.specs.Flat.{FlatState}
use Rattle.tx_serial.specs.Run.{run}
use Rattle.tx_serial.specs.Stored.{has_store_in}
use Rattle.tx_serial.proofs.Copies.{run_prefix, run_lasting}
use Rattle.tx_serial.proofs.StoredPlaces.{stored_places}
use Rattle.tx_progress.specs.Followed.{KeepsTo}
use Rattle.tx_progress.specs.Local.{Local}
use Rattle.tx_progress.specs.Progress.{Progress, is_live, begins_constrained, laying}
use Rattle.tx_progress.specs.Reached.{progress_of, constraint_of, resumption_of, IsFollowed}
use Rattle.tx_progress.proofs.OneMore.{counts, open_is_there}
use Rattle.tx_progress.proofs.Standing.{Stands, RunStands, run_stands, is_begun_so}
use Rattle.tx_progress.proofs.Alike.{its_footprint}

-- ---- the nest

some_begins : (c now : Cpu) (steps : List Step) (nest : List Begin) (k : ℕ) → Stands c now steps nest
    → length steps ≡ k → nat_lt 0 k ≡ true → nest ≢ []
some_begins c now [] [] k h e some = absurd (true≢false (sym some ∙ ap (λ n. nat_lt 0 n) (sym e)))
some_begins c now [] (b ∷ bs) k h e some = absurd h
some_begins c now (s ∷ ss) [] k h e some = absurd h
some_begins c now (s ∷ ss) (b ∷ bs) k h e some = λ no_begins. absurd (cc)

-- with the progress, for its run
abbrev its_run : FlatState → ℕ → Local → Run
its_run f i local = run f i local.attempt.count

stands_now : (f : FlatState) (i : ℕ) (local : Local) → IsFollowed f i local
    → RunStands (f.cpus i) (its_run f i local)
stands_now f i local is = run_stands f i local.attempt.count is.opens

counts_now : (f : FlatState) (i : ℕ) (local : Local) → IsFollowed f i local
    → length (its_run f i local).steps ≡ local.attempt.count
counts_now f i local is = counts f i local.attempt.count (open_is_there (its_run f i local).mark is.opens)

pub live_nest : (f : FlatState) (i : ℕ) (local : Local) → IsFollowed f i local → is_live local.attempt ≡ true
    → local.attempt.nest ≢ []
unfolding progress_of
live_nest f i local is live none =
    let p = its_run f i local in
    some_begins (f.cpus i) p.cpu p.steps p.nest local.attempt.count (stands_now f i local is)
    (counts_now f i local is) live (ap (λ (q : Progress). q.nest) is.attempt ∙ none)

-- ---- the CPU

pub keeps_prefix : (f : FlatState) (i : ℕ) (local : Local) → IsFollowed f i local
    → local.attempt.cpu.prefix ≡ local.cpu.prefix
unfolding progress_of
keeps_prefix f i local is =
    sym (ap (λ (q : Progress). q.cpu.prefix) is.attempt) ∙ run_prefix f i local.attempt.count
    ∙ ap (λ (c : Cpu). c.prefix) is.cpu

pub runs : (s : RunState) → is_running s ≡ true → s ≡ Running
runs Running h = refl
runs Halted h = absurd (true≢false (sym h))
runs (Interrupted code) h = absurd (true≢false (sym h))

pub live_runs : (f : FlatState) (i : ℕ) (local : Local) → IsFollowed f i local → is_live local.attempt ≡ true
    → local.cpu.state ≡ Running
live_runs f i local is live =
    sym (ap (λ (c : Cpu). c.state) is.cpu)
    ∙ runs (f.cpus i).state (and_parts (is_running (f.cpus i).state) (is_none (f.pending i)) (is.acts live)).0

-- ---- constraints

abbrev some_where : Bool → Kept → Option Kept
some_where b k = if b then Some k else None

is_some_where : (b : Bool) (k : Kept) → is_some (some_where b k) ≡ b
is_some_where true k = refl
is_some_where false k = refl

constrained_by : (c now : Cpu) (steps : List Step) (nest : List Begin) → Stands c now steps nest
    → is_some (constraint_of steps) ≡ is_constrained nest
constrained_by c now [] [] h = refl
constrained_by c now [] (b ∷ bs) h = absurd h
constrained_by c now (s ∷ ss) [] h = absurd h
constrained_by c now (s ∷ ss) (b ∷ bs) h =
    is_some_where (begins_constrained s.instruction) (kept (attempt_of (s ∷ ss)))
    ∙ sym (is_begun_so c s ss b bs h)

pub constrained_so : (f : FlatState) (i : ℕ) (local : Local) → IsFollowed f i local
    → is_some local.attempt.constraint ≡ is_constrained local.attempt.nest
unfolding progress_of
constrained_so f i local is =
    let p = its_run f i local in
    subst (λ (q : Progress). is_some q.constraint ≡ is_constrained q.nest) is.attempt
    (constrained_by (f.cpus i) p.cpu p.steps p.nest (stands_now f i local is))

keeps_by : (c now : Cpu) (p : Run) (steps : List Step) (nest : List Begin) → Stands c now steps nest
    → p.steps ≡ steps → p.nest ≡ nest → is_constrained nest ≡ true → KeepsTo c (progress_of p)
unfolding progress_of
keeps_by c now p [] [] h e n constrained = absurd (true≢false (sym constrained))
keeps_by c now p [] (b ∷ bs) h e n constrained = absurd h
keeps_by c now p (s ∷ ss) [] h e n constrained = absurd h
keeps_by c now p (s ∷ ss) (b ∷ bs) h e n constrained =
    let goes = h.goes_on constrained in
    let so : begins_constrained s.instruction ≡ true = sym (is_begun_so c s ss b bs h) ∙ constrained in
    let some = few_steps (attempt_of (s ∷ ss)) goes in
    let all : length p.steps ≡ suc (length ss) = ap length e in
    record {
      few = omega (arith, some, all);
      again = ap resumption_of e ∙ ap (λ x. if x then s.at else s.at + length_of s.instruction) so ∙ h.at;
      kept = kept (attempt_of (s ∷ ss));
      constraint = ap constraint_of e ∙ ap (λ x. some_where x (kept (attempt_of (s ∷ ss)))) so;
      begin = h.at;
      counted = omega (arith, all);
      octowords = few_octowords (attempt_of (s ∷ ss)) goes;
      single = ap length n ∙ ap (λ rest. length (b ∷ rest)) (h.single constrained);
    }

pub keeps_constraints : (f : FlatState) (i : ℕ) (local : Local) → IsFollowed f i local
    → is_constrained local.attempt.nest ≡ true → KeepsTo local.cpu local.attempt
unfolding progress_of
keeps_constraints f i local is constrained =
    let p = its_run f i local in
    let nest : is_constrained p.nest ≡ true =
    ap (λ (q : Progress). is_constrained q.nest) is.attempt ∙ constrained in
    subst (λ c. KeepsTo c local.attempt) is.cpu
    (subst (KeepsTo (f.cpus i)) is.attempt
    (keeps_by (f.cpus i) p.cpu p p.steps p.nest (stands_now f i local is) refl refl nest))

-- ---- stored bytes

one_store : (overlay : Overlay) (s : Store) (rest : List Store) (size a : ℕ) (b : Bool) → (a == s.address) ≡ b
    → overlay a ≡ None
    → (with_one overlay s.address s.byte a ≡ None → has_store_in size rest (a / size) ≡ true)
    → has_store_in size (s ∷ rest) (a / size) ≡ true
one_store overlay s rest size a true h none more =
    let same : s.address ≡ a = grind (arith, h) in
    let here : (a / size == a / size) ≡ true = grind (arith) in
    or_left (s.address / size == a / size) (has_store_in size rest (a / size))
    (ap (λ x. x / size == a / size) same ∙ here)
one_store overlay s rest size a false h none more =
    or_right (s.address / size == a / size) (has_store_in size rest (a / size))
    (more (ap (λ x. if x then Some s.byte else overlay a) h ∙ none))

-- a byte that an overlay has was stored
pub has_store : (overlay : Overlay) (stores : List Store) (size a byte : ℕ)
    → laying overlay stores a ≡ Some byte → overlay a ≡ None
    → has_store_in size stores (a / size) ≡ true
has_store overlay [] size a byte e none = let n : None ≡ Some byte = sym none ∙ e in absurd (cc)
has_store overlay (s ∷ rest) size a byte e none =
    one_store overlay s rest size a (a == s.address) refl none
    (λ still. has_store (with_one overlay s.address s.byte) rest size a byte e still)

prefix_now : (f : FlatState) (i : ℕ) (local : Local) → IsFollowed f i local
    → is_prefix local.cpu.prefix ≡ true → is_prefix (f.cpus i).prefix ≡ true
prefix_now f i local is ok = ap (λ (c : Cpu). is_prefix c.prefix) is.cpu ∙ ok

pub stored_line : (f : FlatState) (i a byte : ℕ) (local : Local) → IsFollowed f i local
    → is_prefix local.cpu.prefix ≡ true → local.attempt.overlay a ≡ Some byte
    → local.attempt.footprint.stored (a / line_size) ≡ true
unfolding progress_of
stored_line f i a byte local is ok h =
    let p = its_run f i local in
    sym (ap (λ sets. sets.stored (a / line_size)) (its_footprint f i local is))
    ∙ stored_places line_size f i local.attempt.count (a / line_size) (prefix_now f i local is ok)
    ∙ has_store nothing p.stores line_size a byte (ap (λ (q : Progress). q.overlay a) is.attempt ∙ h) refl

pub stored_block : (f : FlatState) (i a byte : ℕ) (local : Local) → IsFollowed f i local
    → is_prefix local.cpu.prefix ≡ true → local.attempt.overlay a ≡ Some byte
    → local.attempt.footprint.blocks (a / block_size) ≡ true
unfolding progress_of
stored_block f i a byte local is ok h =
    let p = its_run f i local in
    sym (ap (λ sets. sets.blocks (a / block_size)) (its_footprint f i local is))
    ∙ stored_places block_size f i local.attempt.count (a / block_size) (prefix_now f i local is ok)
    ∙ has_store nothing p.stores block_size a byte (ap (λ (q : Progress). q.overlay a) is.attempt ∙ h) refl

pub lasting_line : (f : FlatState) (i a byte : ℕ) (local : Local) → IsFollowed f i local
    → is_prefix local.cpu.prefix ≡ true → local.attempt.lasting a ≡ Some byte
    → local.attempt.footprint.stored (a / line_size) ≡ true
unfolding progress_of
lasting_line f i a byte local is ok h =
    let p = its_run f i local in
    sym (ap (λ sets. sets.stored (a / line_size)) (its_footprint f i local is))
    ∙ stored_places line_size f i local.attempt.count (a / line_size) (prefix_now f i local is ok)
    ∙ run_lasting (λ s. s.address / line_size == a / line_size) f i local.attempt.count
    (has_store nothing p.lasting line_size a byte (ap (λ (q : Progress). q.lasting a) is.attempt ∙ h) refl)
