-- Sets of pages, CPUs and images that are found to be the same.
use Rattle.std.proofs.Common.{◌≡◌, ℕ, ◌<◌, ◌≤◌, suc, List, [], ◌∷◌, length, get_or, map, Bool}
use Rattle.std.proofs.Common.{arith, sym, ap, ◌∙◌, refl, IsTrue, ◌↔◌, ◌&&◌, ◌==◌}
use Rattle.std.proofs.Math.Bool.{beq}
use Rattle.std.specs.Bool.{Decides}
use Rattle.std.proofs.lemmas.Bool.Decides.{Decides-eqb}
use Rattle.std.specs.FinSet.{FinSet, contains, same_set, nat_cmp-IsAntisymmetric}
use Rattle.std.specs.Ordering.{nat_cmp}
use Rattle.std.specs.Cmp.{nat_cmp_total, booleans_Decides}
use Rattle.std.proofs.lemmas.Bool.{cases_lt, and_parts}
use Rattle.std.proofs.lemmas.List.{get_or-map}
use mathlib.Core.Logic.{⊎_elim}
use Rattle.z_regs.specs.Cpu.{Cpu, cpu_of}
use Rattle.z_regs.specs.declared.image.CpuImage.{CpuImage}
use Rattle.tx_journal.specs.declared.events.Event.{Event}
use Rattle.tx_journal.specs.declared.events.Event.TheVariants.{Turn, External}
use Rattle.tx_journal.specs.contracts.events.EventPartialEq.TheImpl as derived
use Rattle.tx_journal.specs.declared.image.Show.{Show}
use Rattle.tx_journal.specs.Content.{Content}

-- the pages below this one are the same, and no set has one past the last
pub record AgreeUpTo (some others : FinSet nat_cmp) (page : ℕ) : Type 0 where
  pub same : (q : ℕ) → q < page → contains some q ≡ contains others q
  pub past : 0 < page → (q : ℕ) → 256 ≤ q → contains some q ≡ contains others q

-- the first so many CPUs are the same
abbrev pub AreAlike : List CpuImage → List CpuImage → ℕ → Type 0
AreAlike some others n = (k : ℕ) (d : CpuImage) → k < n
    → cpu_of (get_or some k d) ≡ cpu_of (get_or others k d)

pub same_cpus : (some others : List CpuImage) → length some ≡ length others
    → AreAlike some others (length some) → map cpu_of some ≡ map cpu_of others
same_cpus [] [] lengths alike = refl
same_cpus [] (y ∷ ys) lengths alike = absurd (omega arith)
same_cpus (x ∷ xs) [] lengths alike = absurd (omega arith)
same_cpus (x ∷ xs) (y ∷ ys) lengths alike =
    let head : cpu_of x ≡ cpu_of y = alike 0 x (omega arith) in
    let tail = same_cpus xs ys (omega arith) (λ k d within. alike (suc k) d (omega arith)) in
    λ i. head i ∷ tail i

pub agreeing : (some others : FinSet nat_cmp) (page : ℕ) → AgreeUpTo some others page → 256 ≤ page
    → some ≡ others
agreeing some others page agree all = same_set nat_cmp_total nat_cmp-IsAntisymmetric some others (λ q. ⊎_elim
    (λ below. agree.same q (omega arith)) (λ past. agree.past (omega arith) q past) (cases_lt q 256))

pub alike_at : (some others : List CpuImage) (k : ℕ) (d e : CpuImage) → k < length some → k < length others
    → map cpu_of some ≡ map cpu_of others
    → cpu_of (get_or some k d) ≡ cpu_of (get_or others k e)
alike_at some others k d e within also is =
    sym (get_or-map cpu_of some k d (cpu_of d) within) ∙ ap (λ (l : List Cpu). get_or l k (cpu_of d)) is
    ∙ get_or-map cpu_of others k e (cpu_of d) also

-- images are the same where their parts are
pub record SameParts (v w : Content) : Type 0 where
  pub storage : v.storage ≡ w.storage
  pub guard : v.guard ≡ w.guard
  pub starts : v.starts ≡ w.starts
  pub cpus : v.cpus ≡ w.cpus
  pub shows : v.shows ≡ w.shows
  pub schedule : v.schedule ≡ w.schedule
  pub scheduled : v.scheduled ≡ w.scheduled
  pub parms : v.parms ≡ w.parms

pub same_content : (v w : Content) → SameParts v w → v ≡ w
same_content v w same = λ i. record {
  storage = same.storage i;
  guard = same.guard i;
  starts = same.starts i;
  cpus = same.cpus i;
  shows = same.shows i;
  schedule = same.schedule i;
  scheduled = same.scheduled i;
  parms = same.parms i;
}

-- what differs in no part but perhaps the schedule is the same where the schedules are
pub decided : (v w : Content) (b : Bool) → (v.schedule ≡ w.schedule → SameParts v w)
    → IsTrue b ↔ (v.schedule ≡ w.schedule) → IsTrue b ↔ (v ≡ w)
decided v w b same schedule = (
  λ h. same_content v w (same (schedule.0 h)),
  λ h. schedule.1 (ap (λ (p : Content). p.schedule) h),
)

-- ---- what the comparisons that are derived decide

pub show_decides : (a b : Show)
    → Decides ((a.first == b.first) && ((a.length == b.length) && beq a.fields b.fields)) (a ≡ b)
show_decides a b = (
  λ h.
      let parts = and_parts (a.first == b.first) ((a.length == b.length) && beq a.fields b.fields) h in
      let others = and_parts (a.length == b.length) (beq a.fields b.fields) parts.1 in
      let first = (Decides-eqb a.first b.first).0 parts.0 in
      let length = (Decides-eqb a.length b.length).0 others.0 in
      let fields = (booleans_Decides a.fields b.fields).0 others.1 in
      λ i. record { first = first i; length = length i; fields = fields i },
  λ h.
      let first = (Decides-eqb a.first b.first).1 (ap (λ (s : Show). s.first) h) in
      let length = (Decides-eqb a.length b.length).1 (ap (λ (s : Show). s.length) h) in
      let fields = (booleans_Decides a.fields b.fields).1 (ap (λ (s : Show). s.fields) h) in
      rw (first, length, fields) refl,
)

pub event_decides : (a b : Event) → Decides (derived.ghosts.eq a b) (a ≡ b)
event_decides (Turn m) (Turn n) = (λ h. ap Turn ((Decides-eqb m n).0 h), λ h. (Decides-eqb m n).1 (cc))
event_decides (Turn m) (External n) = (λ h. cc, λ h. cc)
event_decides (External m) (Turn n) = (λ h. cc, λ h. cc)
event_decides (External m) (External n) =
    (λ h. ap External ((Decides-eqb m n).0 h), λ h. (Decides-eqb m n).1 (cc))
