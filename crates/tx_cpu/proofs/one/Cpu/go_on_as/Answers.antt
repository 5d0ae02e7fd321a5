-- What is kept of a CPU that goes on as another one, in its attempt or outside.
use Rattle.std.proofs.Common.{◌≡◌, true, false, sym, ap, ◌∙◌}
use Rattle.std.specs.Prelude.{nat_lt, if◌then◌else◌}
use Rattle.z_regs.specs.Cpu.{Cpu}
use Rattle.tx_progress.specs.Progress.{resting}
use Rattle.tx_attempt.specs.Tracked.{Tracked, progress}
use Rattle.tx_attempt.specs.Tracked as tracked
use Rattle.tx_cpu.specs.Parts.{Parts, local_of, goes_on_as}
use Rattle.tx_cpu.specs.contracts.one.Cpu.{the_view}
use Rattle.tx_progress.proofs.Parts.{not_live}
use Rattle.tx_cpu.proofs.one.Cpu.go_on_as.Goals as goal

-- in its attempt
live-so : (p other : Parts) (t : Tracked) → nat_lt 0 other.attempt.count ≡ true
    → nat_lt 0 p.attempt.count ≡ true → t.count ≡ other.attempt.count
    → ((c : Cpu) → progress t c ≡ tracked.goes_on_as (progress other.attempt c) (progress p.attempt c))
    → local_of (record p { image = other.image; attempt = t }) ≡ goes_on_as (local_of other) (local_of p)
live-so p other t live own count is =
    let still : nat_lt 0 t.count ≡ true = ap (nat_lt 0) count ∙ live in
    let saved : (if nat_lt 0 t.count then p.saved else other.image)
    ≡ (if nat_lt 0 other.attempt.count then (local_of p).cpu else (local_of other).cpu) =
    ap (λ b. if b then p.saved else other.image) still
    ∙ sym (ap (λ b. if b then (local_of p).cpu else (local_of other).cpu) live
    ∙ ap (λ b. if b then p.saved else p.image) own) in
    let attempt : progress t other.image
    ≡ (if nat_lt 0 other.attempt.count then tracked.goes_on_as (progress other.attempt other.image)
    (progress p.attempt p.image) else progress other.attempt other.image) =
    is other.image
    ∙ sym (ap (λ b. if b then tracked.goes_on_as (progress other.attempt other.image) (progress p.attempt p.image)
    else progress other.attempt other.image) live) in
    λ i. record {
      cpu = saved i;
      attempt = attempt i;
      pending = p.pending;
      waiting = p.waiting;
    }

-- outside
rests-so : (p other : Parts) → nat_lt 0 other.attempt.count ≡ false → nat_lt 0 p.attempt.count ≡ false
    → ((c : Cpu) → progress p.attempt c ≡ resting c) → ((c : Cpu) → progress other.attempt c ≡ resting c)
    → local_of (record p { image = other.image }) ≡ goes_on_as (local_of other) (local_of p)
rests-so p other rests own none others =
    let cpu : (if nat_lt 0 p.attempt.count then p.saved else other.image)
    ≡ (if nat_lt 0 other.attempt.count then (local_of p).cpu else (local_of other).cpu) =
    ap (λ b. if b then p.saved else other.image) own
    ∙ sym (ap (λ b. if b then (local_of p).cpu else (local_of other).cpu) rests
    ∙ ap (λ b. if b then other.saved else other.image) rests) in
    let attempt : progress p.attempt other.image
    ≡ (if nat_lt 0 other.attempt.count then tracked.goes_on_as (progress other.attempt other.image)
    (progress p.attempt p.image) else progress other.attempt other.image) =
    none other.image ∙ sym (others other.image)
    ∙ sym (ap (λ b. if b then tracked.goes_on_as (progress other.attempt other.image) (progress p.attempt p.image)
    else progress other.attempt other.image) rests) in
    λ i. record {
      cpu = cpu i;
      attempt = attempt i;
      pending = p.pending;
      waiting = p.waiting;
    }

pub returns-then-is_live : goal.returns-then-is_live
returns-then-is_live c =
    let p = the_view c.self.inside in
    let other = the_view c.other.inside in
    let live : nat_lt 0 other.attempt.count ≡ true = sym c.is_live.ensures ∙ c.if-is_live.true in
    let alike : nat_lt 0 p.attempt.count ≡ nat_lt 0 other.attempt.count =
    ap (λ (x : Parts). nat_lt 0 x.attempt.count) c.self.view_is ∙ c.requires.alike
    ∙ sym (ap (λ (x : Parts). nat_lt 0 x.attempt.count) c.other.view_is) in
    live-so p other c.go_on_as.new.self live (alike ∙ live) c.go_on_as.ensures.count c.go_on_as.ensures.progress
    ∙ (λ i. goes_on_as (local_of (c.other.view_is i)) (local_of (c.self.view_is i)))

pub returns-else-is_live : goal.returns-else-is_live
returns-else-is_live c =
    let p = the_view c.self.inside in
    let other = the_view c.other.inside in
    let rests : nat_lt 0 other.attempt.count ≡ false = sym c.is_live.ensures ∙ c.if-is_live.false in
    let alike : nat_lt 0 p.attempt.count ≡ nat_lt 0 other.attempt.count =
    ap (λ (x : Parts). nat_lt 0 x.attempt.count) c.self.view_is ∙ c.requires.alike
    ∙ sym (ap (λ (x : Parts). nat_lt 0 x.attempt.count) c.other.view_is) in
    rests-so p other rests (alike ∙ rests) (c.is_sound.ensures.rests (not_live _ (alike ∙ rests)))
    (c.is_sound-2.ensures.rests (not_live _ rests))
    ∙ (λ i. goes_on_as (local_of (c.other.view_is i)) (local_of (c.self.view_is i)))
