-- Runs from their start on.
use Rattle.std.proofs.Common.{◌≡◌, ℕ, suc, ◌+◌, true, List, [], None, refl}
use Rattle.std.proofs.Common.{sym, ap, subst}
use Rattle.std.proofs.Common.{◌∙◌, length, arith}
use Rattle.std.proofs.lemmas.Bool.{true≢false}
use Rattle.std.proofs.lemmas.List.Elements.{All-nil}
use Rattle.z_regs.specs.Cpu.{Cpu, cpu_of}
use Rattle.z_regs.specs.Prefix.{storage_size}
use Rattle.z_regs.specs.Seen.{seen_by}
use Rattle.tx_control.specs.Nesting.{is_constrained}
use Rattle.tx_footprint.specs.Places.{IsInStorage}
use Rattle.tx_footprint.specs.Touched.{sets_of, untouched}
use Rattle.tx_serial.specs.Flat.{Storage, FlatState, laid_over}
use Rattle.tx_serial.specs.Attempt.{Run, at_rest, footprint}
use Rattle.tx_serial.specs.Attempt as runs
use Rattle.tx_serial.specs.Run.{run, more}
use Rattle.tx_private.specs.Bytes.{function_of}
use Rattle.tx_private.specs.declared.attempt.Attempt.{Attempt}
use Rattle.tx_private.specs.Shows.{Shows, IsRun, IsRunOf, mark_of}
use Rattle.tx_private.proofs.Laid.{listed, ends}
use Rattle.tx_private.proofs.Settled.{nothing_more}

no_limit : {A : Type 0} → is_constrained [] ≡ true → A
no_limit h = absurd (true≢false (sym h))

no_last : {A : Type 0} → runs.Open ≡ runs.Overflowed → A
no_last h = absurd (cc)

-- what is kept of a run without an instruction
pub rests : (bytes : List ℕ) (c : Cpu) (a : Attempt) → length bytes ≡ storage_size → cpu_of a.image ≡ c
    → a.seen ≡ seen_by c.prefix bytes → a.lasting ≡ seen_by c.prefix bytes → a.nest ≡ []
    → sets_of a.footprint ≡ untouched → a.begin.at ≡ 0 → a.begin.length ≡ 0 → mark_of a.mark ≡ runs.Open
    → Shows (function_of bytes) a (at_rest (function_of bytes) c)
unfolding laid_over
rests bytes c a size image seen lasting nest sets at len mark = record {
  mark = mark;
  cpu = sym image;
  copy = seen ∙ ap (seen_by c.prefix) (sym (listed bytes size));
  copy_ends = ends bytes size;
  lasting = lasting ∙ ap (seen_by c.prefix) (sym (listed bytes size));
  lasting_ends = ends bytes size;
  nest = nest;
  sets = sets ∙ sym (nothing_more untouched);
  touched = All-nil IsInStorage;
  limited = λ h. no_limit h;
  begun = at;
  begun_length = len;
  started = λ h. refl;
  last = λ h. no_last h;
}

-- so the first run is shown, and each further one
pub first_run : (bytes text : List ℕ) (c : Cpu) (a : Attempt)
    → Shows (function_of bytes) a (at_rest (function_of bytes) c) → IsRunOf bytes text c 0 a
unfolding run
first_run bytes text c a shows = λ f i storage pages cpu.
    let here : IsRun (function_of bytes) a (at_rest (function_of bytes) c) =
    record { mark = shows.mark; shows = λ there. shows } in
    subst (λ s. IsRun s a (at_rest s (f.cpus i))) (sym storage)
    (subst (λ d. IsRun (function_of bytes) a (at_rest (function_of bytes) d)) (sym cpu) here)

pub next_run : (bytes text : List ℕ) (c : Cpu) (n : ℕ) (a b : Attempt) → IsRunOf bytes text c n a
    → ((base : Storage) (p : Run) → IsRun base a p → IsRun base b (more text p))
    → IsRunOf bytes text c (n + 1) b
unfolding run
next_run bytes text c n a b before goes = λ f i storage pages cpu.
    subst (λ k. IsRun f.storage b (run f i k)) (let e : suc n ≡ n + 1 = omega arith in e)
    (subst (λ t. IsRun f.storage b (more t (run f i n))) (sym pages)
    (goes f.storage (run f i n) (before f i storage pages cpu)))

-- there is a state for each storage, text and CPU
abbrev pub some_state : List ℕ → List ℕ → Cpu → FlatState
some_state bytes text c = record {
  storage = function_of bytes;
  text = text;
  cpus = λ i. c;
  pending = λ i. None;
  waiting = λ i. None;
}

pub some_run : (bytes text : List ℕ) (c : Cpu) (n : ℕ) (a : Attempt) → IsRunOf bytes text c n a
    → (base : Storage) × ((p : Run) × IsRun base a p)
some_run bytes text c n a before =
    let f = some_state bytes text c in (f.storage, (run f 0 n, before f 0 refl refl refl))
