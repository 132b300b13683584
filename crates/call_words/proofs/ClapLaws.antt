-- `clap` takes words in the form of a row, and its matches are what sorting gives.
use Rattle.std.proofs.Common.{◌≡◌, ◌||◌, ◌&&◌, ◌+◌, ℕ, Bool, true, false, cond, not, List, [], ◌∷◌, ◌++◌, map, drop, refl, sym, ap, ap₂, ◌∙◌, subst, Option, Some, None, true≢false, arith, codes}
use Rattle.std.specs.Prelude.{is_some}
use Rattle.std.specs.List.{find, fold, list_all, list_any, count_by}
use Rattle.std.specs.Option.{option_map, option_map_or, unwrap_or}
use Rattle.std.specs.Str.{bytes_eq}
use Rattle.clap.specs.Lexer.{long_of}
use Rattle.clap.specs.Walk.{Held, Row, Rule, Text, Waiting, Walk, idle, option, positional, all_of, has_row, used, without, settled_rows, finished, rows_after, walk, walk_from, walked, with_default, arg_by_id, arg_by_long, nothing_held, is_early_multiple}
use Rattle.clap.specs.Simple.{App, Shape, built, filled, filled_from, is_buildable, is_ready_leaf, is_simple, matches_of, names_of, new_shape, with_index, is_ready}
use Rattle.clap.specs.Takes.{takes, built_takes, level_passes, settle_passes, turn_passes, walk_passes, is_valid, default_passes, is_given}
use Rattle.clap.proofs.TakesLemmas.{leaf_takes}
use Rattle.call_words.specs.Sorting.{Bytes, Sorted, and_sorted, next_sorted, none_sorted, option_in, other_sorted, sorted}
use Rattle.call_words.specs.Requests.{value_given}
use Rattle.call_words.specs.Clap.{words_rule, option_rule, app_for}
use Rattle.call_words.proofs.Words.{dashes, plain_long, plain_short, plain_escape, long_escape, same_name, is_name, other_name, knows, Each, each_split, Given, Others, Once, once_split, none_given, given_last, given_other}
use Rattle.call_words.proofs.Rows.{no_row, with_same, with_other, without_none}

-- ---- the command as it is built

abbrev words_built : Rule
words_built = with_index 1 (filled words_rule)

abbrev option_built : Bytes → Rule
option_built name = with_index 2 (filled (option_rule name))

abbrev rules_for : List Bytes → List Rule
rules_for names = words_built ∷ map option_built names

options_filled : (names : List Bytes) → filled_from 2 (map option_rule names) ≡ map option_built names
options_filled [] = refl
options_filled (n ∷ ns) = ap (λ rules. option_built n ∷ rules) (options_filled ns)

abbrev shape_for : Bytes → List Bytes → Shape
shape_for name names = record (new_shape name) { rules = rules_for names; disable_help_flag = true; disable_help_subcommand = true; is_built = true }

abbrev built_for : Bytes → List Bytes → App
built_for name names = record { top = shape_for name names; subs = [] }

built_is : (name : Bytes) (names : List Bytes) → built (app_for name names) ≡ built_for name names
built_is name names =
    ap (λ rules. record { top = record (new_shape name) { rules = words_built ∷ rules; disable_help_flag = true; disable_help_subcommand = true; is_built = true }; subs = [] }) (options_filled names)

-- ---- it is simple

all_simple : (names : List Bytes) → list_all (λ (a : Rule). a.is_simple) (map option_rule names) ≡ true
all_simple [] = refl
all_simple (n ∷ ns) = all_simple ns

built_simple : (names : List Bytes) → list_all (λ (a : Rule). a.is_simple) (map option_built names) ≡ true
built_simple [] = refl
built_simple (n ∷ ns) = built_simple ns

no_index : (a : ℕ) (names : List Bytes) → fold (λ a (x : Rule). a + cond (is_some x.index) 1 0) a (map option_built names) ≡ a
no_index a [] = refl
no_index a (n ∷ ns) = let same : a + 0 ≡ a = omega arith in no_index (a + 0) ns ∙ same

none_early : (n : ℕ) (names : List Bytes) → list_any (is_early_multiple n) (map option_built names) ≡ false
none_early n [] = refl
none_early n (m ∷ ms) = none_early n ms

buildable : (name : Bytes) (names : List Bytes) → is_buildable (app_for name names) ≡ true
buildable name names = rw (all_simple names) refl

one_index : (names : List Bytes) → count_by (λ (a : Rule). is_some a.index) (rules_for names) ≡ 1
one_index names = no_index 1 names

in_order : (names : List Bytes) → list_any (is_early_multiple (count_by (λ (a : Rule). is_some a.index) (rules_for names))) (rules_for names) ≡ false
in_order names = ap (λ n. list_any (is_early_multiple n) (rules_for names)) (one_index names) ∙ none_early 1 names

ready : (name : Bytes) (names : List Bytes) → is_ready (shape_for name names) ≡ true
ready name names = ap₂ (λ b c. b && not c) (built_simple names) (in_order names)

pub is_simple_for : (name : Bytes) (names : List Bytes) → is_simple (app_for name names) ≡ true
is_simple_for name names =
    ap (λ b. is_buildable (app_for name names) && (is_ready b.top && list_all is_ready_leaf b.subs)) (built_is name names)
    ∙ ap₂ (λ a b. a && (b && true)) (buildable name names) (ready name names)

-- ---- one word

abbrev at : List Row → Option (Text × List Text) → Waiting → Walk
at rows p w = record { held = record { rows = rows; pending = p; skip = 0 }; waiting = w; position = 1; is_trailing = false; stopped = None }

-- nothing waits for a value
abbrev IsFree : Waiting → Type 0
IsFree idle = Unit {0}
IsFree positional = Unit {0}
IsFree (option n) = ⊥

and_false : (b : Bool) → (b && false) ≡ false
and_false true = refl
and_false false = refl

abbrev pub single : Option Bytes → Option (List Text)
single = option_map (λ v. v ∷ [])

abbrev pub listed : List Bytes → Option (List Text)
listed [] = None
listed (x ∷ xs) = Some (x ∷ xs)

listed_push : (xs : List Bytes) (v : Bytes) → ◌≡◌ {A = Option (List Text)} (Some (unwrap_or (listed xs) [] ++ v ∷ [])) (listed (xs ++ v ∷ []))
listed_push [] v = refl
listed_push (x ∷ xs) v = refl

in_options : (n : Bytes) (ns : List Bytes) → knows ns n ≡ true → find (λ (a : Rule). bytes_eq a.id n) (map option_built ns) ≡ Some (option_built n)
in_options n [] known = absurd (true≢false (sym known))
in_options n (m ∷ ms) known = go (bytes_eq m n) refl known (λ k. in_options n ms k)
  where
    go : (t : Bool) → bytes_eq m n ≡ t → (t || knows ms n) ≡ true → (knows ms n ≡ true → find (λ (a : Rule). bytes_eq a.id n) (map option_built ms) ≡ Some (option_built n))
        → cond t (Some (option_built m)) (find (λ (a : Rule). bytes_eq a.id n) (map option_built ms)) ≡ Some (option_built n)
    go true e k rest = ap (λ x. Some (option_built x)) (is_name m n e)
    go false e k rest = rest k

long_in_options : (n : Bytes) (ns : List Bytes) → knows ns n ≡ true → arg_by_long (map option_built ns) n ≡ Some (option_built n)
long_in_options n [] known = absurd (true≢false (sym known))
long_in_options n (m ∷ ms) known = go (bytes_eq m n) refl known (λ k. long_in_options n ms k)
  where
    go : (t : Bool) → bytes_eq m n ≡ t → (t || knows ms n) ≡ true → (knows ms n ≡ true → arg_by_long (map option_built ms) n ≡ Some (option_built n))
        → cond (t || false) (Some (option_built m)) (arg_by_long (map option_built ms) n) ≡ Some (option_built n)
    go true e k rest = ap (λ x. Some (option_built x)) (is_name m n e)
    go false e k rest = rest k

module _ (name : Bytes) (names : List Bytes) (apart : knows names (codes "words") ≡ false) where
  abbrev C : List Rule
  C = rules_for names

  abbrev S : Shape
  S = shape_for name names

  words_differ : (n : Bytes) → knows names n ≡ true → bytes_eq (codes "words") n ≡ false
  words_differ n known = other_name (codes "words") n (λ e. true≢false (sym known ∙ ap (knows names) (sym e) ∙ apart))

  differ_words : (n : Bytes) → knows names n ≡ true → bytes_eq n (codes "words") ≡ false
  differ_words n known = other_name n (codes "words") (λ e. true≢false (sym known ∙ ap (knows names) e ∙ apart))

  option_by_id : (n : Bytes) → knows names n ≡ true → arg_by_id C n ≡ Some (option_built n)
  option_by_id n known = rw (words_differ n known) (in_options n names known)

  option_by_long : (n : Bytes) → knows names n ≡ true → arg_by_long C n ≡ Some (option_built n)
  option_by_long n known = long_in_options n names known

  -- a word that is no option, where nothing waits
  other_walked : (rows : List Row) (p : Option (Text × List Text)) (w : Waiting) (v : Bytes) → IsFree w → dashes v ≡ false
      → walked C [] (at rows p w) v ≡ at (settled_rows C p rows) (Some (codes "words", v ∷ [])) positional
  unfolding walked
  other_walked rows p idle v free e = rw (plain_escape v e, plain_long v e, plain_short v e, and_false (option_map_or (λ (q : Text × List Text). bytes_eq q.0 (codes "words")) p false)) refl
  other_walked rows p positional v free e = rw (plain_escape v e, plain_long v e, plain_short v e, and_false (option_map_or (λ (q : Text × List Text). bytes_eq q.0 (codes "words")) p false)) refl
  other_walked rows p (option n) v free e = absurd free

  other_passes_here : (rows : List Row) (p : Option (Text × List Text)) (w : Waiting) (v : Bytes) → IsFree w → dashes v ≡ false
      → settle_passes C false (record { rows = rows; pending = p; skip = 0 }) ≡ true → turn_passes S [] (at rows p w) v ≡ true
  other_passes_here rows p idle v free e settles = rw (plain_escape v e, plain_long v e, plain_short v e, and_false (option_map_or (λ (q : Text × List Text). bytes_eq q.0 (codes "words")) p false)) settles
  other_passes_here rows p positional v free e settles = rw (plain_escape v e, plain_long v e, plain_short v e, and_false (option_map_or (λ (q : Text × List Text). bytes_eq q.0 (codes "words")) p false)) settles
  other_passes_here rows p (option n) v free e settles = absurd free

  -- `--name=value`
  with_walked : (rows : List Row) (p : Option (Text × List Text)) (w : Waiting) (v n x : Bytes) → IsFree w → long_of v ≡ Some (n, Some x) → knows names n ≡ true
      → walked C [] (at rows p w) v ≡ at (used (option_built n) (x ∷ []) (settled_rows C p rows)) None idle
  unfolding walked
  with_walked rows p idle v n x free e known = rw (long_escape v n (Some x) e, e, option_by_long n known) refl
  with_walked rows p positional v n x free e known = rw (long_escape v n (Some x) e, e, option_by_long n known) refl
  with_walked rows p (option m) v n x free e known = absurd free

  with_passes : (rows : List Row) (p : Option (Text × List Text)) (w : Waiting) (v n x : Bytes) → IsFree w → long_of v ≡ Some (n, Some x) → knows names n ≡ true
      → settle_passes C false (record { rows = rows; pending = p; skip = 0 }) ≡ true → has_row n (settled_rows C p rows) ≡ false → turn_passes S [] (at rows p w) v ≡ true
  with_passes rows p idle v n x free e known settles new = rw (long_escape v n (Some x) e, e, option_by_long n known, settles, new) refl
  with_passes rows p positional v n x free e known settles new = rw (long_escape v n (Some x) e, e, option_by_long n known, settles, new) refl
  with_passes rows p (option m) v n x free e known settles new = absurd free

  -- `--name`
  name_walked : (rows : List Row) (p : Option (Text × List Text)) (w : Waiting) (v n : Bytes) → IsFree w → long_of v ≡ Some (n, None) → knows names n ≡ true
      → walked C [] (at rows p w) v ≡ at (settled_rows C p rows) (Some (n, [])) (option n)
  unfolding walked
  name_walked rows p idle v n free e known = rw (long_escape v n None e, e, option_by_long n known) refl
  name_walked rows p positional v n free e known = rw (long_escape v n None e, e, option_by_long n known) refl
  name_walked rows p (option m) v n free e known = absurd free

  name_passes : (rows : List Row) (p : Option (Text × List Text)) (w : Waiting) (v n : Bytes) → IsFree w → long_of v ≡ Some (n, None) → knows names n ≡ true
      → settle_passes C false (record { rows = rows; pending = p; skip = 0 }) ≡ true → turn_passes S [] (at rows p w) v ≡ true
  name_passes rows p idle v n free e known settles = rw (long_escape v n None e, e, option_by_long n known, settles) refl
  name_passes rows p positional v n free e known settles = rw (long_escape v n None e, e, option_by_long n known, settles) refl
  name_passes rows p (option m) v n free e known settles = absurd free

  -- the value behind it
  value_walked : (rows : List Row) (n v : Bytes) → knows names n ≡ true → dashes v ≡ false
      → walked C [] (at rows (Some (n, [])) (option n)) v ≡ at rows (Some (n, v ∷ [])) idle
  unfolding walked
  value_walked rows n v known e = rw (plain_escape v e, plain_long v e, plain_short v e, option_by_id n known, same_name n) refl

  value_passes_here : (rows : List Row) (n v : Bytes) → dashes v ≡ false → turn_passes S [] (at rows (Some (n, [])) (option n)) v ≡ true
  value_passes_here rows n v e = rw (plain_escape v e, plain_long v e, plain_short v e) refl

  -- ---- where the words have come to

  -- what is sorted so far is of the command: no word and no value begins with a hyphen, and each option is its own, given once
  pub record Right (s : Sorted) : Type 0 where
    pub others : Each (λ w. dashes w ≡ false) s.others
    pub given : Each (λ (o : Bytes × Bytes). (knows names o.0 ≡ true) × (dashes o.1 ≡ false)) s.given
    pub once : Once s.given
    pub waiting : option_map_or (λ n. knows names n) s.waiting true ≡ true

  earlier_by : (s : Sorted) (v : Bytes) (o : Option (Bytes × Option Bytes)) → s.waiting ≡ None → Right (other_sorted s v o) → Right s
  earlier_by s v None none r =
      record { others = (each_split _ s.others v r.others).0; given = r.given; once = r.once; waiting = r.waiting }
  earlier_by s v (Some (n, None)) none r =
      record { others = r.others; given = r.given; once = r.once; waiting = rw none refl }
  earlier_by s v (Some (n, Some x)) none r =
      record { others = r.others; given = (each_split _ s.given (n, x) r.given).0; once = (once_split s.given (n, x) r.once).0; waiting = r.waiting }

  earlier_from : (s : Sorted) (v : Bytes) (o : Option Bytes) → s.waiting ≡ o → Right (next_sorted s v o) → Right s
  earlier_from s v None is r = earlier_by s v (option_in v) is r
  earlier_from s v (Some n) is r =
      let last = each_split _ s.given (n, v) r.given in
      record { others = r.others; given = last.0; once = (once_split s.given (n, v) r.once).0; waiting = rw is last.1.0 }

  earlier : (s : Sorted) (v : Bytes) → Right (and_sorted s v) → Right s
  earlier s v r = earlier_from s v s.waiting refl r

  earlier_all : (ws : List Bytes) (s : Sorted) → Right (fold and_sorted s ws) → Right s
  earlier_all [] s r = r
  earlier_all (v ∷ vs) s r = earlier s v (earlier_all vs (and_sorted s v) r)

  -- the rows hold what was sorted
  pub record Holds (others : List Bytes) (given : Given) (rows : List Row) : Type 0 where
    pub words : all_of (codes "words") rows ≡ listed others
    pub values : (n : Bytes) → knows names n ≡ true → all_of n rows ≡ single (value_given given n)

  holds_word : (others : List Bytes) (given : Given) (rows : List Row) (v : Bytes) → Holds others given rows → Holds (others ++ v ∷ []) given (used words_built (v ∷ []) rows)
  holds_word others given rows v h = record {
    words = with_same (codes "words") _ _ (v ∷ []) rows ∙ ap (λ o. Some (unwrap_or o [] ++ v ∷ [])) h.words ∙ listed_push others v;
    values = λ n known. with_other (codes "words") _ _ (v ∷ []) n rows (words_differ n known) ∙ h.values n known;
  }

  no_row_yet : (others : List Bytes) (given : Given) (rows : List Row) (n x : Bytes) → Holds others given rows → knows names n ≡ true → Each (λ o. Others o (n, x)) given → has_row n rows ≡ false
  no_row_yet others given rows n x h known new = no_row n rows (h.values n known ∙ ap single (none_given given n x new))

  holds_option : (others : List Bytes) (given : Given) (rows : List Row) (n x : Bytes) → Holds others given rows → knows names n ≡ true → Each (λ o. Others o (n, x)) given
      → Holds others (given ++ (n, x) ∷ []) (used (option_built n) (x ∷ []) rows)
  holds_option others given rows n x h known new =
      let same = without_none n rows (no_row_yet others given rows n x h known new) in
      record {
        words = with_other n _ _ (x ∷ []) (codes "words") (without n rows) (differ_words n known) ∙ ap (all_of (codes "words")) same ∙ h.words;
        values = λ m known_too. go m known_too (bytes_eq n m) refl same;
      }
    where
      go : (m : Bytes) → knows names m ≡ true → (t : Bool) → bytes_eq n m ≡ t → without n rows ≡ rows → all_of m (used (option_built n) (x ∷ []) rows) ≡ single (value_given (given ++ (n, x) ∷ []) m)
      go m known_too true e same =
          let is : n ≡ m = is_name n m e in
          subst (λ k. all_of k (used (option_built n) (x ∷ []) rows) ≡ single (value_given (given ++ (n, x) ∷ []) k)) is
          (with_same n _ _ (x ∷ []) (without n rows)
          ∙ ap (λ rs. Some (unwrap_or (all_of n rs) [] ++ x ∷ [])) same
          ∙ ap (λ o. Some (unwrap_or o [] ++ x ∷ [])) (h.values n known ∙ ap single (none_given given n x new))
          ∙ sym (ap single (given_last given n x new)))
      go m known_too false e same =
          with_other n _ _ (x ∷ []) m (without n rows) e ∙ ap (all_of m) same ∙ h.values m known_too ∙ sym (ap single (given_other given n x m e))

  -- what stands between two words: nothing waits, or an option waits for its value
  pub data Stands (s : Sorted) : Walk → Type 0 where
    free : (rows : List Row) (p : Option (Text × List Text)) (w : Waiting) → s.waiting ≡ None → IsFree w
        → settle_passes C false (record { rows = rows; pending = p; skip = 0 }) ≡ true → Holds s.others s.given (settled_rows C p rows) → Stands s (at rows p w)
    waits : (rows : List Row) (n : Bytes) → s.waiting ≡ Some n → Holds s.others s.given rows → Stands s (at rows (Some (n, [])) (option n))

  -- an option's value passes where the option has none yet
  option_settles : (rows : List Row) (n x : Bytes) → knows names n ≡ true → has_row n rows ≡ false → settle_passes C false (record { rows = rows; pending = Some (n, x ∷ []); skip = 0 }) ≡ true
  option_settles rows n x known new = rw (option_by_id n known, new) refl

  option_settled : (rows : List Row) (n x : Bytes) → knows names n ≡ true → settled_rows C (Some (n, x ∷ [])) rows ≡ used (option_built n) (x ∷ []) rows
  option_settled rows n x known = rw (option_by_id n known) refl

  free_turn : (s : Sorted) (rows : List Row) (p : Option (Text × List Text)) (w : Waiting) (v : Bytes) (o : Option (Bytes × Option Bytes)) → s.waiting ≡ None → IsFree w
      → settle_passes C false (record { rows = rows; pending = p; skip = 0 }) ≡ true → Holds s.others s.given (settled_rows C p rows)
      → long_of v ≡ o → Right (other_sorted s v o) → (turn_passes S [] (at rows p w) v ≡ true) × Stands (other_sorted s v o) (walked C [] (at rows p w) v)
  free_turn s rows p w v None none fr settles h is r =
      let plain : dashes v ≡ false = (each_split _ s.others v r.others).1 in
      let next = record s { others = s.others ++ v ∷ [] } in (
        other_passes_here rows p w v fr plain settles,
        subst (Stands next) (sym (other_walked rows p w v fr plain))
            (free (settled_rows C p rows) (Some (codes "words", v ∷ [])) positional none tt refl (holds_word s.others s.given (settled_rows C p rows) v h)),
      )
  free_turn s rows p w v (Some (n, None)) none fr settles h is r =
      let next = record s { waiting = Some n } in (
        name_passes rows p w v n fr is r.waiting settles,
        subst (Stands next) (sym (name_walked rows p w v n fr is r.waiting)) (waits (settled_rows C p rows) n refl h),
      )
  free_turn s rows p w v (Some (n, Some x)) none fr settles h is r =
      let last = (each_split _ s.given (n, x) r.given).1 in
      let new = (once_split s.given (n, x) r.once).1 in
      let next = record s { given = s.given ++ (n, x) ∷ [] } in
      let no = no_row_yet s.others s.given (settled_rows C p rows) n x h last.0 new in (
        with_passes rows p w v n x fr is last.0 settles no,
        subst (Stands next) (sym (with_walked rows p w v n x fr is last.0))
            (free (used (option_built n) (x ∷ []) (settled_rows C p rows)) None idle none tt refl (holds_option s.others s.given (settled_rows C p rows) n x h last.0 new)),
      )

  waiting_turn : (s : Sorted) (rows : List Row) (n v : Bytes) → Holds s.others s.given rows → Right (next_sorted s v (Some n))
      → (turn_passes S [] (at rows (Some (n, [])) (option n)) v ≡ true) × Stands (next_sorted s v (Some n)) (walked C [] (at rows (Some (n, [])) (option n)) v)
  waiting_turn s rows n v h r =
      let last = (each_split _ s.given (n, v) r.given).1 in
      let new = (once_split s.given (n, v) r.once).1 in
      let next = record s { given = s.given ++ (n, v) ∷ []; waiting = None } in
      let no = no_row_yet s.others s.given rows n v h last.0 new in
      let holds = holds_option s.others s.given rows n v h last.0 new in (
        value_passes_here rows n v last.1,
        subst (Stands next) (sym (value_walked rows n v last.0 last.1))
            (free rows (Some (n, v ∷ [])) idle refl tt (option_settles rows n v last.0 no)
            (subst (Holds next.others next.given) (sym (option_settled rows n v last.0)) holds)),
      )

  turn : (s : Sorted) (w : Walk) (v : Bytes) → Stands s w → Right (and_sorted s v) → (turn_passes S [] w v ≡ true) × Stands (and_sorted s v) (walked C [] w v)
  turn s w v (free rows p waiting none fr settles h) r =
      let is : and_sorted s v ≡ other_sorted s v (long_of v) = ap (next_sorted s v) none in
      let here = free_turn s rows p waiting v (long_of v) none fr settles h refl (subst Right is r) in
      (here.0, subst (λ next. Stands next (walked C [] (at rows p waiting) v)) (sym is) here.1)
  turn s w v (waits rows n is_waiting h) r =
      let is : and_sorted s v ≡ next_sorted s v (Some n) = ap (next_sorted s v) is_waiting in
      let here = waiting_turn s rows n v h (subst Right is r) in
      (here.0, subst (λ next. Stands next (walked C [] (at rows (Some (n, [])) (option n)) v)) (sym is) here.1)

  both_true : (a b : Bool) → a ≡ true → b ≡ true → (a && b) ≡ true
  both_true a b e f = rw (e, f) refl

  all_turns : (ws : List Bytes) (s : Sorted) (w : Walk) → Stands s w → Right (fold and_sorted s ws)
      → (walk_passes S [] w ws ≡ true) × Stands (fold and_sorted s ws) (fold (walked C []) w ws)
  unfolding walk_passes
  all_turns [] s w st r = (refl, st)
  all_turns (v ∷ vs) s w st r =
      let here = turn s w v st (earlier_all vs (and_sorted s v) r) in
      let rest = all_turns vs (and_sorted s v) (walked C [] w v) here.1 r in
      (both_true _ _ here.0 rest.0, rest.1)

  -- ---- the whole

  -- of a command whose options have no defaults nothing is added at the end
  defaults_same : (rows : List Row) (ns : List Bytes) → fold with_default rows (map option_built ns) ≡ rows
  defaults_same rows [] = refl
  defaults_same rows (n ∷ ns) = ap (λ rs. fold with_default rs (map option_built ns)) (either_same (has_row n rows)) ∙ defaults_same rows ns
    where
      either_same : (b : Bool) → cond b rows rows ≡ rows
      either_same true = refl
      either_same false = refl

  finished_is : (h : Held) → finished C h ≡ settled_rows C h.pending h.rows
  finished_is h = ap (λ rs. fold with_default rs (map option_built names)) (either_same (has_row (codes "words") (settled_rows C h.pending h.rows))) ∙ defaults_same _ names
    where
      either_same : (b : Bool) → cond b (settled_rows C h.pending h.rows) (settled_rows C h.pending h.rows) ≡ settled_rows C h.pending h.rows
      either_same true = refl
      either_same false = refl

  defaults_pass : (ns : List Bytes) → list_all default_passes (map option_built ns) ≡ true
  defaults_pass [] = refl
  defaults_pass (n ∷ ns) = defaults_pass ns

  all_free : (ns : List Bytes) → list_all (λ (a : Rule). a.is_free) (map option_built ns) ≡ true
  all_free [] = refl
  all_free (n ∷ ns) = all_free ns

  none_required : (rows : List Row) (ns : List Bytes) → list_all (λ (a : Rule). not a.required || is_given a.id rows) (map option_built ns) ≡ true
  none_required rows [] = refl
  none_required rows (n ∷ ns) = none_required rows ns

  valid : (rows : List Row) → is_valid S rows false ≡ true
  valid rows = rw (all_free names, none_required rows names) refl

  -- where the words have ended and nothing waits
  ended : (s : Sorted) (w : Walk) → Stands s w → s.waiting ≡ None → (settle_passes C false w.held ≡ true) × Holds s.others s.given (finished C w.held)
  ended s w (free rows p waiting none fr settles h) done = (settles, subst (Holds s.others s.given) (sym (finished_is (record { rows = rows; pending = p; skip = 0 }))) h)
  ended s w (waits rows n is h) done = absurd (let e : ◌≡◌ {A = Option Bytes} None (Some n) = sym done ∙ is in cc)

  begins : Stands none_sorted (walk_from nothing_held)
  begins = free [] None idle refl tt refl (record { words = refl; values = λ n known. refl })

  module _ (words : List Bytes) (right : Right (sorted words)) (whole : (sorted words).waiting ≡ None) where
    turns : (walk_passes S [] (walk_from nothing_held) (drop 1 words) ≡ true) × Stands (sorted words) (walk C [] nothing_held (drop 1 words))
    turns = all_turns (drop 1 words) none_sorted (walk_from nothing_held) begins right

    at_end : (settle_passes C false (walk C [] nothing_held (drop 1 words)).held ≡ true) × Holds (sorted words).others (sorted words).given (finished C (walk C [] nothing_held (drop 1 words)).held)
    at_end = ended (sorted words) (walk C [] nothing_held (drop 1 words)) turns.1 whole

    level : level_passes S [] nothing_held (drop 1 words) false ≡ true
    level = both_true _ _ turns.0 (both_true _ _ at_end.0 (both_true _ _ (defaults_pass names) (valid (finished C (walk C [] nothing_held (drop 1 words)).held))))

    -- the command takes the words
    pub taken : takes (app_for name names) words ≡ true
    taken = both_true _ _ (is_simple_for name names)
        (ap (λ b. built_takes b nothing_held (drop 1 words)) (built_is name names) ∙ leaf_takes (built_for name names) nothing_held (drop 1 words) refl level)

    -- and what it finds is what sorting gives
    pub found : Holds (sorted words).others (sorted words).given (matches_of (app_for name names) words)
    found = subst (Holds (sorted words).others (sorted words).given)
        (sym (ap (λ b. rows_after b.top.rules (names_of b) (drop 1 words)) (built_is name names))) at_end.1
