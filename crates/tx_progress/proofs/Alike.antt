-- What is followed of a CPU stays followed in a flat state that is the same to it.
use Rattle.std.proofs.Common.{◌≡◌, ℕ, true, sym, ap, subst, ◌∙◌}
use Rattle.std.specs.Prelude.{◌&&◌, is_none}
use Rattle.z_regs.specs.Prefix.{absolute_of, is_prefix}
use Rattle.tx_serial.specs.Alike.{AgreeInText, track_of, AreAlike, touched_addresses}
use Rattle.tx_serial.specs.Apply.{may_act, is_running}
use Rattle.tx_serial.specs.Attempt.{Run, Open, footprint}
use Rattle.tx_serial.specs.Flat.{FlatState}
use Rattle.tx_serial.specs.Run.{run}
use Rattle.tx_serial.proofs.Copies.{run_prefix}
use Rattle.tx_serial.proofs.Frame.{run_alike, with_its_copy, fate_alike}
use Rattle.tx_serial.proofs.TextStays.{copy_keeps_text}
use Rattle.tx_serial.specs.Fate.{fate}
use Rattle.tx_serial.specs.Text.{SameText}
use Rattle.z_regs.specs.Cpu.{Cpu}
use Rattle.z_instr.specs.Access.{lies_in}
use Rattle.tx_progress.specs.Trial.{fate_by_progress}
use Rattle.tx_progress.proofs.Parts.{followed_fate}
use Rattle.tx_progress.specs.Followed.{AreSameTo}
use Rattle.tx_progress.specs.Local.{Local}
use Rattle.tx_progress.specs.Reached.{progress_of, IsFollowed}
use Rattle.tx_progress.proofs.OneMore.{open_is_there}
use Rattle.tx_progress.proofs.Lines.{touched_lines, text_there}

-- runs that show the same have made the same progress
pub same_progress : (p q : Run) → track_of q ≡ track_of p → progress_of q ≡ progress_of p
unfolding progress_of
same_progress p q e = ap progress_of (with_its_copy p q e)

pub same_act : (f g : FlatState) (i : ℕ) → g.cpus i ≡ f.cpus i → g.pending i ≡ f.pending i
    → may_act g i ≡ may_act f i
same_act f g i c p = λ k. is_running (c k).state && is_none (p k)

pub followed_alike : (f g : FlatState) (i : ℕ) (local : Local) → IsFollowed f i local
    → AreAlike i (touched_addresses (run f i local.attempt.count)) f g
    → g.pending i ≡ f.pending i → g.waiting i ≡ f.waiting i → IsFollowed g i local
followed_alike f g i local is alike pending waiting =
    let n = local.attempt.count in
    let same = run_alike f g i n alike in
    record {
      cpu = alike.cpu ∙ is.cpu;
      pending = pending ∙ is.pending;
      waiting = waiting ∙ is.waiting;
      attempt = same_progress (run f i n) (run g i n) same ∙ is.attempt;
      opens = ap (λ t. t.mark) same ∙ is.opens;
      acts = λ live. same_act f g i alike.cpu pending ∙ is.acts live;
    }

-- the footprint is that of the run
pub its_footprint : (f : FlatState) (i : ℕ) (local : Local) → IsFollowed f i local
    → footprint (run f i local.attempt.count) ≡ local.attempt.footprint
unfolding progress_of
its_footprint f i local is = ap (λ q. q.footprint) is.attempt

pub followed_by_lines : (f g : FlatState) (i : ℕ) (local : Local) → IsFollowed f i local
    → is_prefix (f.cpus i).prefix ≡ true → AreSameTo i local.attempt.footprint f g → IsFollowed g i local
followed_by_lines f g i local is ok same =
    let n = local.attempt.count in
    let prefix = (f.cpus i).prefix in
    let lines = subst (λ sets. AreSameTo i sets f g) (sym (its_footprint f i local is)) same in
    followed_alike f g i local is record {
      cpu = same.cpu;
      pages = same.pages;
      text = λ a h. same.text (absolute_of prefix a) (text_there prefix f.text a ok h);
      touched = λ a h. lines.lines (absolute_of prefix a)
          (touched_lines f i n a ok (open_is_there (run f i n).mark is.opens) h);
    } same.pending same.waiting

-- its run shows the same, all but its copy
pub same_track : (f g : FlatState) (i : ℕ) (local : Local) → IsFollowed f i local
    → is_prefix (f.cpus i).prefix ≡ true → AreSameTo i local.attempt.footprint f g
    → track_of (run g i local.attempt.count) ≡ track_of (run f i local.attempt.count)
same_track f g i local is ok same =
    let n = local.attempt.count in
    let prefix = (f.cpus i).prefix in
    let lines = subst (λ sets. AreSameTo i sets f g) (sym (its_footprint f i local is)) same in
    run_alike f g i n record {
      cpu = same.cpu;
      pages = same.pages;
      text = λ a h. same.text (absolute_of prefix a) (text_there prefix f.text a ok h);
      touched = λ a h. lines.lines (absolute_of prefix a)
          (touched_lines f i n a ok (open_is_there (run f i n).mark is.opens) h);
    }

-- ---- the fate

-- the fate of an open run depends on text alone
run_fate : (f g : FlatState) (i k : ℕ) → (run f i k).mark ≡ Open → track_of (run g i k) ≡ track_of (run f i k)
    → is_prefix (f.cpus i).prefix ≡ true → g.text ≡ f.text → SameText f.text (run f i k).copy (run g i k).copy
    → fate g.text (run g i k) ≡ fate f.text (run f i k)
run_fate f g i k opens same ok pages text =
    let p = run f i k in
    let r = run g i k in
    ap (λ t. fate t r) pages
    ∙ ap (fate f.text) (with_its_copy p r same)
    ∙ fate_alike f.text p r.copy
    (subst (λ prefix. AgreeInText prefix f.text p.copy r.copy) (sym (run_prefix f i k))
    (λ a h. text (absolute_of (f.cpus i).prefix a) (text_there (f.cpus i).prefix f.text a ok h)))

copies_same : (f g : FlatState) (i k : ℕ) → is_prefix (f.cpus i).prefix ≡ true
    → is_prefix (g.cpus i).prefix ≡ true → g.text ≡ f.text → SameText f.text f.storage g.storage
    → SameText f.text (run f i k).copy (run g i k).copy
copies_same f g i k ok also pages text a h =
    copy_keeps_text g i k also a (ap (λ t. lies_in t a) pages ∙ h)
    ∙ text a h
    ∙ sym (copy_keeps_text f i k ok a h)

pub same_fate : (f g : FlatState) (i : ℕ) (local : Local) → IsFollowed f i local
    → is_prefix (f.cpus i).prefix ≡ true → AreSameTo i local.attempt.footprint f g
    → fate_by_progress g.text g.storage local.attempt ≡ fate_by_progress f.text f.storage local.attempt
same_fate f g i local is ok same =
    let n = local.attempt.count in
    let still = followed_by_lines f g i local is ok same in
    let also : is_prefix (g.cpus i).prefix ≡ true = ap (λ (c : Cpu). is_prefix c.prefix) same.cpu ∙ ok in
    sym (followed_fate g i local still)
    ∙ run_fate f g i n is.opens (same_track f g i local is ok same) ok same.pages
    (copies_same f g i n ok also same.pages same.text)
    ∙ followed_fate f i local is
