-- The laws of the board that need no step of a function.
use Rattle.std.proofs.Common.{◌≡◌, ℕ, ◌<◌, ◌≤◌, min, true, List, ◌∷◌, ◌++◌, drop, map, get_or, sym, ap, ◌∙◌, subst, arith}
use Rattle.std.specs.Prelude.{slice_index}
use Rattle.atomic_table.specs.Table.{State}
use Rattle.crew.specs.declared.view.View.{View}
use Rattle.crew.specs.Counts.{times, once_below}
use Rattle.crew.specs.SharedWords.{Holds, AreWithin}
use Rattle.crew.specs.Machine.{Worker, Moment, Event, Putting, IsReached, after_all, opening}
use Rattle.crew.specs.Shows.{shown, moment_of}
use Rattle.crew.specs.Rule.{IsBoard}
use Rattle.crew.specs.Laws.{IsSafe, BoardsShowMoments, BoardsShareOut, EventsKeepTruth, WordsNeverShrink}
use Rattle.crew.proofs.BitLemmas.{within_bits}
use Rattle.crew.proofs.Machines.{within_after_all, after_front, safe_always}
use Rattle.crew.proofs.Sharing.{total_map, shared_out}

module _ {T : Type 0} (True? : T → ℕ → Type 0) (May : T → Putting) where
  pub boards_show_moments : BoardsShowMoments True? May
  boards_show_moments t start end_ s k =
      let draws_are : k.draws ≡ slice_index s.words 0 = sym (ap (λ (ws : List ℕ). get_or ws 0 0) k.words_are) in
      let facts_are : k.facts ≡ drop 1 s.words = sym (ap (λ (ws : List ℕ). drop 1 ws) k.words_are) in
      subst (λ (d : ℕ). IsReached (May t) end_ start (shown d (drop 1 s.words) s.views)) draws_are
      (subst (λ (l : List ℕ). IsReached (May t) end_ start (shown k.draws l s.views)) facts_are k.reached)

  pub boards_share_out : BoardsShareOut True? May
  boards_share_out t start end_ s k =
      let draws_are : k.draws ≡ slice_index s.words 0 = sym (ap (λ (ws : List ℕ). get_or ws 0 0) k.words_are) in
      record {
        drawn = shared_out (min (slice_index s.words 0) end_) (map (λ (v : View T). v.drawn) s.views)
            (λ x. sym (total_map (times x) (λ (v : View T). v.drawn) s.views) ∙ k.drawn x ∙ ap (λ d. once_below x (min d end_)) draws_are);
        done = λ id v at is. let d = (k.each id v at).done is in omega arith;
      }

  pub events_keep_truth : ((t : T) (drawn known : List ℕ) (n : ℕ) → ((m : ℕ) → Holds known m → True? t m) → May t drawn known n → True? t n) → EventsKeepTruth True? May
  events_keep_truth sound t start end_ es all lawful =
      let m = after_all end_ (opening start) es in
      let h = safe_always (May t) (True? t) start end_ (sound t) all es lawful in
      record {
        has_opening = within_bits start m.facts h.has_opening;
        only_true = h.only_true;
        drawn = shared_out (min m.draws end_) (map (λ (x : Worker). x.drawn) m.workers)
            (λ x. sym (total_map (times x) (λ (w : Worker). w.drawn) m.workers) ∙ h.drawn x);
      }

pub words_never_shrink : WordsNeverShrink
words_never_shrink start end_ front back n h =
    subst (λ (m : Moment). Holds m.facts n) (sym (after_front end_ (opening start) front back)) (within_after_all end_ (after_all end_ (opening start) front) back n h)
