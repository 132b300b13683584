-- The line of a number is that on which its statement begins in the layout.
use Rattle.std.proofs.Common.{◌≡◌, ℕ, zero, suc, ◌+◌, ◌<◌, ◌==◌, List, [], ◌∷◌, ◌++◌, length, map, slice_get, Bool, true, false, Option, Some, None, codes, refl, sym, ap, subst, arith, inl, inr}
use Rattle.std.specs.Prelude.{All, slice_index_or, ◌⊎◌}
use Rattle.std.specs.List.{list_all}
use Rattle.std.specs.Option.{option_map_or}
use Rattle.std.proofs.lemmas.Bool.{and_parts, eqb-true, eq-eqb}
use Rattle.std.proofs.lemmas.List.Elements.{All-nil, All-append, All-head, All-tail}
use Rattle.c_tree.specs.declared.numbered.Start.{Start}
use Rattle.c_tree.specs.Numbered.{Starts, start, own_id}
use Rattle.c_tree.specs.declared.types.CType.{CType}
use Rattle.c_tree.specs.declared.program.Program.{Program}
use Rattle.c_tree.specs.declared.program.Var.{Var}
use Rattle.c_tree.specs.declared.program.Member.{Member}
use Rattle.c_tree.specs.declared.program.StructDef.{StructDef}
use Rattle.c_tree.specs.declared.program.Function.{Function}
use Rattle.c_tree.specs.declared.program.Item.{Item}
use Rattle.c_tree.specs.declared.program.Item.TheVariants.{Include, Tag, Struct, Global, Prototype, Define}
use Rattle.c_tree.specs.declared.statement.Statement.{Statement}
use Rattle.c_language.specs.Words.{Bytes, declared, type_words, name_of_struct}
use Rattle.c_language.specs.Tokens.{line_feeds}
use Rattle.c_language.specs.Layout.{line, static_words, result_words, params_words, param_words, named_params, head_words, member_lines, struct_lines, function_lines, global_words, init_words, include_words, var_words, body_lines, item_lines}
use Rattle.c_print.specs.Feedless.{feedless, type_feedless, var_feedless, member_feedless, struct_feedless, function_feedless, name_feedless, item_feedless, statement_feedless, IsFeedless}
use Rattle.c_print.specs.Lines.{placed, item_placed, struct_placed, function_placed, bare, heights, starts_from, block_starts, layout_starts, line_if, line_among, line_of}
use Rattle.c_print.specs.StartsOn.{ItemsBehind, defined, behind, HasPlace, StartsOn}
use Rattle.c_print.proofs.FeedLemmas.{cat, line_feeds-line, found_feedless, joined_feedless, name_of_struct_feedless, declared_feedless, result_feedless, type_words_feedless, var_words_feedless, init_words_feedless}
use Rattle.c_print.proofs.StartLemmas.{IsLaidList, body_laid}
use Rattle.c_print.proofs.OpeningLemmas.{items_open, items_listed, IsListed}
use Rattle.c_language.proofs.Lists.{feeds-append}

-- ---- what is found among those that pass

found_passes : {X : Type 0} (test : X → Bool) (xs : List X) → list_all test xs ≡ true → (n : ℕ) (x : X) → slice_get xs n ≡ Some x → test x ≡ true
found_passes test [] h n x e = absurd cc
found_passes {X} test (y ∷ xs) h zero x e =
    let same : ◌≡◌ {A = Option X} (Some y) (Some x) = e in
    let is : y ≡ x = ap (λ (o : Option X). option_map_or (λ z. z) o y) same in
    subst (λ z. test z ≡ true) is (and_parts (test y) (list_all test xs) h).0
found_passes test (y ∷ xs) h (suc n) x e = found_passes test xs (and_parts (test y) (list_all test xs) h).1 n x e

-- ---- the lines of items

static_feedless : (is_static : Bool) → feedless (static_words is_static) ≡ true
static_feedless true = refl
static_feedless false = refl

-- a number in the items has its line
record IsStarted (p : Program) (all : List Item) (k : ℕ) (x : Start) : Type 0 where
  statement : Statement
  number : own_id statement ≡ Some x.id
  front : Bytes
  words : Bytes
  stands : ItemsBehind p statement all front words
  counted : x.line ≡ k + line_feeds front

module _ (p : Program) (ok : IsFeedless p) where
  result_words_feedless : (t : Option CType) → feedless (result_words p t) ≡ true
  result_words_feedless None = refl
  result_words_feedless (Some t) = result_feedless p ok t

  params_feedless : (ws : List Bytes) → list_all feedless ws ≡ true → feedless (params_words ws) ≡ true
  params_feedless [] h = refl
  params_feedless (w ∷ ws) h = joined_feedless (codes ", ") (w ∷ ws) refl h

  var_params_feedless : (xs : List ℕ) → list_all feedless (map (var_words p) xs) ≡ true
  var_params_feedless [] = refl
  var_params_feedless (x ∷ xs) = rw (var_words_feedless p ok x, var_params_feedless xs) refl

  param_feedless : (name : Option Bytes) (x : ℕ) → name_feedless name ≡ true → feedless (param_words p name x) ≡ true
  param_feedless None x h = found_feedless var_feedless (λ (v : Var). type_words p v.shape) (λ v k. type_words_feedless p ok v.shape) p.vars ok.vars x
  param_feedless (Some name) x h =
      found_feedless var_feedless (λ (v : Var). declared p v.shape name) (λ v k. declared_feedless p ok v.shape name h (and_parts (feedless v.name) (type_feedless v.shape) k).1) p.vars ok.vars x

  named_feedless : (names : List (Option Bytes)) (xs : List ℕ) → list_all name_feedless names ≡ true → list_all feedless (named_params p names xs) ≡ true
  named_feedless [] xs h = refl
  named_feedless (n ∷ ns) [] h = refl
  named_feedless (n ∷ ns) (x ∷ xs) h =
      let both = and_parts (name_feedless n) (list_all name_feedless ns) h in rw (param_feedless n x both.0, named_feedless ns xs both.1) refl

  head_feedless : (is_static : Bool) (f : Function) (params : List Bytes) → feedless f.name ≡ true → list_all feedless params ≡ true → feedless (head_words p is_static f params) ≡ true
  head_feedless is_static f params n h =
      let inside : feedless (params_words params ++ codes ")") ≡ true = cat (params_words params) (codes ")") (params_feedless params h) refl in
      let named : feedless (f.name ++ (codes "(" ++ (params_words params ++ codes ")"))) ≡ true = cat f.name (codes "(" ++ (params_words params ++ codes ")")) n inside in
      cat (static_words is_static) (result_words p f.result ++ (f.name ++ (codes "(" ++ (params_words params ++ codes ")")))) (static_feedless is_static)
      (cat (result_words p f.result) (f.name ++ (codes "(" ++ (params_words params ++ codes ")"))) (result_words_feedless f.result) named)

  member_feeds : (ms : List Member) → list_all member_feedless ms ≡ true → line_feeds (member_lines p ms) ≡ length ms
  member_feeds [] h = refl
  member_feeds (m ∷ ms) h =
      let both = and_parts (member_feedless m) (list_all member_feedless ms) h in
      let own = and_parts (feedless m.name) (type_feedless m.shape) both.0 in
      let words = declared p m.shape m.name ++ codes ";" in
      let plain : feedless words ≡ true = cat (declared p m.shape m.name) (codes ";") (declared_feedless p ok m.shape m.name own.0 own.1) refl in
      omega (arith, feeds-append (line 1 words) (member_lines p ms), line_feeds-line 1 words plain, member_feeds ms both.1)

  struct_feeds : (d : StructDef) → struct_feedless d ≡ true → line_feeds (struct_lines p d) ≡ 2 + length d.members
  struct_feeds d h =
      let both = and_parts (feedless d.name) (list_all member_feedless d.members) h in
      let words = codes "struct " ++ (d.name ++ codes " {") in
      let plain : feedless words ≡ true = cat d.name (codes " {") both.0 refl in
      omega (
        arith,
        feeds-append (line 0 words) (member_lines p d.members ++ line 0 (codes "};")),
        feeds-append (member_lines p d.members) (line 0 (codes "};")),
        line_feeds-line 0 words plain,
        line_feeds-line 0 (codes "};") refl,
        member_feeds d.members both.1,
      )

  found_struct_feeds : (o : Option StructDef) → ((d : StructDef) → o ≡ Some d → struct_feedless d ≡ true) → line_feeds (option_map_or (struct_lines p) o []) ≡ (option_map_or struct_placed o (bare 0)).height
  found_struct_feeds None h = refl
  found_struct_feeds (Some d) h = struct_feeds d (h d refl)

  found_prototype_feeds : (o : Option Function) (is_static : Bool) (names : List (Option Bytes)) → list_all name_feedless names ≡ true → ((g : Function) → o ≡ Some g → function_feedless g ≡ true)
      → line_feeds (option_map_or (λ (g : Function). line 0 (head_words p is_static g (named_params p names g.params) ++ codes ";")) o []) ≡ (option_map_or (λ (g : Function). bare 1) o (bare 0)).height
  found_prototype_feeds None is_static names n h = refl
  found_prototype_feeds (Some g) is_static names n h =
      let words = head_words p is_static g (named_params p names g.params) in
      line_feeds-line 0 (words ++ codes ";") (cat words (codes ";") (head_feedless is_static g (named_params p names g.params) (and_parts (feedless g.name) _ (h g refl)).0 (named_feedless names g.params n)) refl)

  -- a function that is defined: its first line, and its body
  definition_head : (f : Function) → function_feedless f ≡ true → feedless (head_words p f.is_static f (map (var_words p) f.params) ++ codes " {") ≡ true
  definition_head f h =
      let words = head_words p f.is_static f (map (var_words p) f.params) in
      cat words (codes " {") (head_feedless f.is_static f (map (var_words p) f.params) (and_parts (feedless f.name) _ h).0 (var_params_feedless f.params)) refl

  definition_body : (f : Function) → function_feedless f ≡ true → IsLaidList p f.body
  definition_body f h =
      let outer = and_parts (feedless f.name) _ h in
      body_laid p ok f.body (and_parts (option_map_or type_feedless f.result true) (list_all statement_feedless f.body) outer.1).1

  function_feeds : (f : Function) → function_feedless f ≡ true → line_feeds (function_lines p f) ≡ 2 + heights (map placed f.body)
  function_feeds f h =
      let words = head_words p f.is_static f (map (var_words p) f.params) ++ codes " {" in
      omega (
        arith,
        feeds-append (line 0 words) (body_lines p 1 f.body ++ line 0 (codes "}")),
        feeds-append (body_lines p 1 f.body) (line 0 (codes "}")),
        line_feeds-line 0 words (definition_head f h),
        line_feeds-line 0 (codes "}") refl,
        (definition_body f h).tall 1,
      )

  found_function_feeds : (o : Option Function) → ((g : Function) → o ≡ Some g → function_feedless g ≡ true) → line_feeds (option_map_or (function_lines p) o []) ≡ (option_map_or function_placed o (bare 0)).height
  found_function_feeds None h = refl
  found_function_feeds (Some g) h = function_feeds g (h g refl)

  include_feedless : (is_stdlib : Bool) → feedless (include_words is_stdlib) ≡ true
  include_feedless true = refl
  include_feedless false = refl

  global_feedless : (x : ℕ) → feedless (global_words p x) ≡ true
  global_feedless =
      found_feedless var_feedless (λ (v : Var). static_words v.is_static ++ declared p v.shape v.name)
      (λ v k. let both = and_parts (feedless v.name) (type_feedless v.shape) k in cat (static_words v.is_static) (declared p v.shape v.name) (static_feedless v.is_static) (declared_feedless p ok v.shape v.name both.0 both.1)) p.vars ok.vars

  item_feeds : (i : Item) → item_feedless i ≡ true → line_feeds (item_lines p i) ≡ (item_placed p i).height
  item_feeds (Include is_stdlib) h = line_feeds-line 0 (include_words is_stdlib) (include_feedless is_stdlib)
  item_feeds (Tag s) h = line_feeds-line 0 (codes "struct " ++ (name_of_struct p s ++ codes ";")) (cat (name_of_struct p s) (codes ";") (name_of_struct_feedless p ok s) refl)
  item_feeds (Struct s) h = found_struct_feeds (slice_get p.structs s) (found_passes struct_feedless p.structs ok.structs s)
  item_feeds (Global x i) h =
      let tail : feedless (init_words p i ++ codes ";") ≡ true = cat (init_words p i) (codes ";") (init_words_feedless p ok i h) refl in
      line_feeds-line 0 (global_words p x ++ (init_words p i ++ codes ";")) (cat (global_words p x) (init_words p i ++ codes ";") (global_feedless x) tail)
  item_feeds (Prototype f names is_static) h = found_prototype_feeds (slice_get p.functions f) is_static names h (found_passes function_feedless p.functions ok.functions f)
  item_feeds (Define f) h = found_function_feeds (slice_get p.functions f) (found_passes function_feedless p.functions ok.functions f)

  -- ---- the statements of items

  function_started : (f k : ℕ) (rest : List Item) (o : Option Function) → slice_get p.functions f ≡ o → All (IsStarted p (Define f ∷ rest) k) (starts_from (option_map_or function_placed o (bare 0)) k)
  function_started f k rest None e = All-nil (IsStarted p (Define f ∷ rest) k)
  function_started f k rest (Some g) e = λ i d lt.
      let passes = found_passes function_feedless p.functions ok.functions f g e in
      let words = head_words p g.is_static g (map (var_words p) g.params) ++ codes " {" in
      let h = (definition_body g passes).started 1 (k + 1) i d lt in
      record {
        statement = h.statement;
        number = h.number;
        front = line 0 words ++ h.front;
        words = h.words;
        stands = defined e h.stands;
        counted = omega (arith, h.counted, feeds-append (line 0 words) h.front, line_feeds-line 0 words (definition_head g passes));
      }

  no_starts : (o : Option StructDef) (k : ℕ) (rest : List Item) → All (IsStarted p rest k) (starts_from (option_map_or struct_placed o (bare 0)) k)
  no_starts None k rest = All-nil (IsStarted p rest k)
  no_starts (Some d) k rest = All-nil (IsStarted p rest k)

  no_starts_declared : (o : Option Function) (k : ℕ) (rest : List Item) → All (IsStarted p rest k) (starts_from (option_map_or (λ (g : Function). bare 1) o (bare 0)) k)
  no_starts_declared None k rest = All-nil (IsStarted p rest k)
  no_starts_declared (Some g) k rest = All-nil (IsStarted p rest k)

  item_started : (i : Item) (k : ℕ) (rest : List Item) → All (IsStarted p (i ∷ rest) k) (starts_from (item_placed p i) k)
  item_started (Include is_stdlib) k rest = All-nil (IsStarted p (Include is_stdlib ∷ rest) k)
  item_started (Tag s) k rest = All-nil (IsStarted p (Tag s ∷ rest) k)
  item_started (Struct s) k rest = no_starts (slice_get p.structs s) k (Struct s ∷ rest)
  item_started (Global x i) k rest = All-nil (IsStarted p (Global x i ∷ rest) k)
  item_started (Prototype f names is_static) k rest = no_starts_declared (slice_get p.functions f) k (Prototype f names is_static ∷ rest)
  item_started (Define f) k rest = function_started f k rest (slice_get p.functions f) refl

  later_started : (i : Item) (rest : List Item) (k : ℕ) → item_feedless i ≡ true → (ss : Starts) → All (IsStarted p rest (k + (item_placed p i).height)) ss → All (IsStarted p (i ∷ rest) k) ss
  later_started i rest k plain ss h n d lt =
      let a = h n d lt in
      record {
        statement = a.statement;
        number = a.number;
        front = item_lines p i ++ a.front;
        words = a.words;
        stands = behind a.stands;
        counted = omega (arith, a.counted, feeds-append (item_lines p i) a.front, item_feeds i plain);
      }

  items_started : (all : List Item) → list_all item_feedless all ≡ true → (k : ℕ) → All (IsStarted p all k) (block_starts (map (item_placed p) all) k)
  items_started [] h k = All-nil (IsStarted p [] k)
  items_started (i ∷ rest) h k =
      let both = and_parts (item_feedless i) (list_all item_feedless rest) h in
      let others = block_starts (map (item_placed p) rest) (k + (item_placed p i).height) in
      All-append (IsStarted p (i ∷ rest) k) (starts_from (item_placed p i) k) others (item_started i k rest)
      (later_started i rest k both.0 others (items_started rest both.1 (k + (item_placed p i).height)))

  -- each number that is counted has its line
  pub all_start : All (λ (x : Start). StartsOn p x.id x.line) (layout_starts p)
  all_start n d lt =
      let a = items_started p.items ok.items 1 n d lt in
      let o = items_open p a.statement a.stands in
      record { statement = a.statement; number = a.number; front = a.front; words = a.words; rest = o.rest; stands = a.stands; text = o.is; line = a.counted }

-- ---- the last of the lines of a number

module _ (P : ℕ → ℕ → Type 0) (id : ℕ) where
  chosen : (x : Start) (before : ℕ) (is : Bool) → (x.id == id) ≡ is → P x.id x.line → P id before → P id (line_if is x.line before)
  chosen x before true e a b = subst (λ (k : ℕ). P k x.line) (eqb-true x.id id e) a
  chosen x before false e a b = b

  last_has : (ss : Starts) (before : ℕ) → All (λ (x : Start). P x.id x.line) ss → P id before → P id (line_among id ss before)
  last_has [] before h b = b
  last_has (x ∷ ss) before h b =
      last_has ss (line_if (x.id == id) x.line before) (All-tail (λ (y : Start). P y.id y.line) x ss h) (chosen x before (x.id == id) refl (All-head (λ (y : Start). P y.id y.line) x ss h) b)

  listed_has : (ss : Starts) (k before l : ℕ) → All (λ (x : Start). P x.id x.line) ss → k < length ss → slice_index_or ss k (start id l) ≡ start id l → P id (line_among id ss before)
  listed_has [] k before l h lt e = absurd (omega (arith, lt))
  listed_has (x ∷ ss) zero before l h lt e =
      let same : x.id ≡ id = ap (λ (y : Start). y.id) e in
      let own : P id x.line = subst (λ (m : ℕ). P m x.line) same (All-head (λ (y : Start). P y.id y.line) x ss h) in
      last_has ss (line_if (x.id == id) x.line before) (All-tail (λ (y : Start). P y.id y.line) x ss h) (subst (λ (b : Bool). P id (line_if b x.line before)) (sym (eq-eqb x.id id same)) own)
  listed_has (x ∷ ss) (suc k) before l h lt e =
      listed_has ss k (line_if (x.id == id) x.line before) l (All-tail (λ (y : Start). P y.id y.line) x ss h) (omega (arith, lt)) e

-- a number for which a line is given has a statement that starts on the line of the number
pub listed_starts : (p : Program) (id : ℕ) → IsFeedless p → IsListed id (layout_starts p) → StartsOn p id (line_of p id)
listed_starts p id ok listed = listed_has (StartsOn p) id (layout_starts p) listed.1.0 0 listed.0 (all_start p ok) listed.1.1 listed.1.2

-- the statement with a number that stands in the layout starts on the line of the number
pub starts_on_line : (p : Program) (id : ℕ) → IsFeedless p → HasPlace p id → StartsOn p id (line_of p id)
starts_on_line p id ok place = listed_starts p id ok (items_listed p place.statement id place.number place.stands 1)

-- a line is none, or that on which a statement with the number starts
abbrev IsFound : Program → ℕ → ℕ → Type 0
IsFound p id n = (n ≡ 0) ⊎ StartsOn p id n

or_nowhere : (p : Program) (id n : ℕ) → (HasPlace p id → ⊥) → IsFound p id n → n ≡ 0
or_nowhere p id n nowhere (inl e) = e
or_nowhere p id n nowhere (inr h) = absurd (nowhere (record { statement = h.statement; number = h.number; front = h.front; words = h.words; stands = h.stands }))

-- no line is given where no statement with the number stands in the layout
pub no_line : (p : Program) (id : ℕ) → IsFeedless p → (HasPlace p id → ⊥) → line_of p id ≡ 0
no_line p id ok nowhere = or_nowhere p id (line_of p id) nowhere (last_has (IsFound p) id (layout_starts p) 0 (λ n d lt. inr (all_start p ok n d lt)) (inl refl))
