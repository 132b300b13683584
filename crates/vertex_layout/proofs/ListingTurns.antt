-- What is left to list, one more part of it.
use Rattle.std.proofs.Common.{◌≡◌, ℕ, zero, suc, ◌+◌, ◌-◌, ◌<◌, List, [], ◌∷◌, ◌++◌, map, length, drop, get_or, slice_get, Option, Bool, true, false, Some, refl, sym, ap, ap₂, ◌∙◌, arith}
use Rattle.std.specs.Prelude.{if◌then◌else◌}
use Rattle.std.specs.Borrow.{Bor}
use Rattle.std.specs.Option.{option_map_or}
use Rattle.std.proofs.lemmas.Option.{same_Some}
use Rattle.c_language.proofs.Turns.{drop_turn}
use Rattle.c_tree.specs.declared.program.Function.{Function}
use Rattle.c_tree.specs.declared.program.Program.{Program}
use Rattle.c_tree.specs.declared.expr.Expr.{Expr}
use Rattle.c_tree.specs.declared.statement.Statement.{Statement}
use Rattle.c_tree.specs.declared.statement.Statement.TheVariants as statement
use Rattle.c_tree.specs.declared.statement.Target.{Target}
use Rattle.c_tree.specs.declared.statement.Target.TheVariants as target
use Rattle.dep_model.specs.declared.vertex.Slot.{Slot}
use Rattle.dep_model.specs.declared.vertex.Slot.TheVariants.{Argument, At}
use Rattle.dep_model.specs.declared.vertex.Vertex.{Vertex}
use Rattle.dep_model.specs.declared.vertex.VertexKind.TheVariants.{Entry, FormalIn, Call, ActualIn, ActualOut}
use Rattle.dep_model.specs.Denoted.{Places}
use Rattle.dep_model.specs.Doings.{Doing, doings_of, body_doings}
use Rattle.dep_model.specs.Locations.{TypedLocation}
use Rattle.dep_model.specs.MayPoint.{parameters}
use Rattle.dep_model.specs.ModRef.{FunctionEffects}
use Rattle.dep_model.specs.VertexOrder.{slots_from, slots_of, touched, target_slots, arguments_from, all_vertices, formal_ins, formal_outs, function_kinds, vertices_from}
use Rattle.effect_rows.specs.Own.{own_doing}
use Rattle.effect_rows.proofs.OwnForms.{own-Invoke}
use Rattle.vertex_layout.specs.declared.listing.Port.{Port}
use Rattle.vertex_layout.specs.declared.listing.Port.TheVariants as port
use Rattle.vertex_layout.specs.declared.seen.Touch.TheVariants as touch
use Rattle.vertex_layout.specs.Listing.{through, vertices_in, argument_slots, result_if, is_stored, touched_slots, in_kinds, out_kinds, call_kinds, part_kinds, own_kinds, all_own_kinds}
use Rattle.vertex_layout.specs.OwnStatements.{own_doings, done}
use Rattle.vertex_layout.specs.Seen.{SeenProgram, effects_in}
use Rattle.vertex_layout.proofs.Left.{in_append}

one_on : (k : ℕ) → suc k ≡ k + 1
one_on k = omega arith

-- ---- arguments

-- the vertices of the arguments from the k-th on
abbrev pub arguments_left : ℕ → Port → ℕ → ℕ → List Vertex
arguments_left f way n k = vertices_in f (map (through way) (argument_slots k (n - k)))

pub arguments_begin : (f : ℕ) (way : Port) (n : ℕ) → arguments_left f way n 0 ≡ vertices_in f (map (through way) (argument_slots 0 n))
arguments_begin f way n = let all : n - 0 ≡ n = omega arith in ap (λ m. vertices_in f (map (through way) (argument_slots 0 m))) all

pub arguments_turn : (f : ℕ) (way : Port) (n k : ℕ) → k < n → arguments_left f way n k ≡ vertices_in f (through way (Argument k) ∷ []) ++ arguments_left f way n (k + 1)
arguments_turn f way n k low =
    let count : n - k ≡ suc (n - (k + 1)) = omega (arith, low) in
    ap (λ m. vertices_in f (map (through way) (argument_slots k m))) count
    ∙ ap (λ j. vertices_in f (map (through way) (Argument k ∷ argument_slots j (n - (k + 1))))) (one_on k)

pub arguments_end : (f : ℕ) (way : Port) (n k : ℕ) → n - k ≡ 0 → arguments_left f way n k ≡ []
arguments_end f way n k none = ap (λ m. vertices_in f (map (through way) (argument_slots k m))) none

-- as many as a list has
pub arguments_of : {A : Type 0} (k : ℕ) (xs : List A) → argument_slots k (length xs) ≡ arguments_from k xs
arguments_of k [] = refl
arguments_of k (x ∷ xs) = ap (λ (ss : List Slot). Argument k ∷ ss) (arguments_of (suc k) xs)

-- ---- locations

drop_at : (xs : List TypedLocation) (k : ℕ) (o : TypedLocation) → slice_get xs k ≡ Some o → drop k xs ≡ o ∷ drop (k + 1) xs
drop_at [] k o at = cc
drop_at (x ∷ xs) zero o at = ap (λ (y : TypedLocation). y ∷ xs) (same_Some _ _ at)
drop_at (x ∷ xs) (suc k) o at = let next : suc k + 1 ≡ suc (k + 1) = omega arith in drop_at xs k o at ∙ ap (λ j. o ∷ drop j (x ∷ xs)) (sym next)

-- the vertices of the locations that pass, from the k-th on
abbrev pub locations_left : ℕ → Port → Places → List TypedLocation → ℕ → List Vertex
locations_left f way test xs k = vertices_in f (map (through way) (slots_from test k (drop k xs)))

slots_next : (test : Places) (xs : List TypedLocation) (k : ℕ) (o : TypedLocation) → slice_get xs k ≡ Some o
    → slots_from test k (drop k xs) ≡ (if test o.location then At k ∷ slots_from test (k + 1) (drop (k + 1) xs) else slots_from test (k + 1) (drop (k + 1) xs))
slots_next test xs k o at =
    ap (slots_from test k) (drop_at xs k o at)
    ∙ ap (λ j. if test o.location then At k ∷ slots_from test j (drop (k + 1) xs) else slots_from test j (drop (k + 1) xs)) (one_on k)

pub location_in : (f : ℕ) (way : Port) (test : Places) (xs : List TypedLocation) (k : ℕ) (o : TypedLocation) → slice_get xs k ≡ Some o → test o.location ≡ true
    → locations_left f way test xs k ≡ vertices_in f (through way (At k) ∷ []) ++ locations_left f way test xs (k + 1)
location_in f way test xs k o at is =
    ap (λ ss. vertices_in f (map (through way) ss)) (slots_next test xs k o at
    ∙ ap (λ b. if b then At k ∷ slots_from test (k + 1) (drop (k + 1) xs) else slots_from test (k + 1) (drop (k + 1) xs)) is)

pub location_out : (f : ℕ) (way : Port) (test : Places) (xs : List TypedLocation) (k : ℕ) (o : TypedLocation) → slice_get xs k ≡ Some o → test o.location ≡ false
    → locations_left f way test xs k ≡ locations_left f way test xs (k + 1)
location_out f way test xs k o at is =
    ap (λ ss. vertices_in f (map (through way) ss)) (slots_next test xs k o at
    ∙ ap (λ b. if b then At k ∷ slots_from test (k + 1) (drop (k + 1) xs) else slots_from test (k + 1) (drop (k + 1) xs)) is)

drop_all : (xs : List TypedLocation) (k : ℕ) → k ≡ length xs → drop k xs ≡ []
drop_all [] zero e = refl
drop_all [] (suc k) e = absurd (omega (arith, e))
drop_all (x ∷ xs) zero e = absurd (omega (arith, e))
drop_all (x ∷ xs) (suc k) e = drop_all xs k (omega (arith, e))

pub locations_end : (f : ℕ) (way : Port) (test : Places) (xs : List TypedLocation) (k : ℕ) → k ≡ length xs → locations_left f way test xs k ≡ []
locations_end f way test xs k e = ap (λ ys. vertices_in f (map (through way) (slots_from test k ys))) (drop_all xs k e)

-- ---- statements

abbrev pub statements_left : SeenProgram → ℕ → List (Bor Statement) → ℕ → List Vertex
statements_left s f xs i = vertices_in f (all_own_kinds s (own_doings (drop i xs)))

pub statements_turn : (s : SeenProgram) (f : ℕ) (xs : List (Bor Statement)) (i : ℕ) (x : Bor Statement) → i < length xs → x ≡ get_or xs i x
    → statements_left s f xs i ≡ vertices_in f (own_kinds s (own_doing x.now)) ++ statements_left s f xs (i + 1)
statements_turn s f xs i x low is =
    ap (λ ys. vertices_in f (all_own_kinds s (own_doings ys))) (drop_turn xs i x low is)
    ∙ in_append f (own_kinds s (own_doing x.now)) (all_own_kinds s (own_doings (drop (i + 1) xs)))

-- the vertices of what is done are those of the doings
pub done_kinds : (s : SeenProgram) (ds : List Doing) → all_own_kinds s (done ds) ≡ all_vertices s.program (effects_in s) ds
done_kinds s [] = refl
done_kinds s (d ∷ ds) = ap (λ ks. own_kinds s (Some d) ++ ks) (done_kinds s ds)

-- ---- functions

abbrev pub functions_left : Program → FunctionEffects → List Function → ℕ → List Vertex
functions_left p e gs f = vertices_from p e f (drop f gs)

pub functions_turn : (p : Program) (e : FunctionEffects) (gs : List Function) (f : ℕ) (g : Function) → f < length gs → g ≡ get_or gs f g
    → functions_left p e gs f ≡ vertices_in f (function_kinds p e f) ++ functions_left p e gs (f + 1)
functions_turn p e gs f g low is =
    ap (vertices_from p e f) (drop_turn gs f g low is)
    ∙ ap (λ k. vertices_in f (function_kinds p e f) ++ vertices_from p e k (drop (f + 1) gs)) (one_on f)

-- ---- what is done for a call and for a function

result_slots_of : (to : Target) (p : Program) (e : FunctionEffects) → result_if (is_stored to) ≡ target_slots p e to
result_slots_of target.None p e = refl
result_slots_of (target.Place x) p e = refl
result_slots_of (target.Declared x) p e = refl

pub call_is : (s : SeenProgram) (x : Statement) (id l : ℕ) (to : Target) (g : ℕ) (args : List Expr) (n : ℕ) (b : Bool)
    → x ≡ statement.Invoke id l to g args → n ≡ length args → b ≡ is_stored to → call_kinds s id g n b ≡ own_kinds s (own_doing x)
call_is s x id l to g args n b is count stored =
    let e = effects_in s in
    let ins : in_kinds s (port.ActualIn id) n g ≡ map (ActualIn id) (arguments_from 0 args ++ slots_of s.program e (touched s.program e g)) =
    ap (λ m. map (ActualIn id) (argument_slots 0 m ++ touched_slots s touch.Either g)) count ∙ ap (λ ss. map (ActualIn id) (ss ++ touched_slots s touch.Either g)) (arguments_of 0 args) in
    let outs : out_kinds s (port.ActualOut id) g b ≡ map (ActualOut id) (slots_of s.program e (e.modified g) ++ target_slots s.program e to) =
    ap (λ c. map (ActualOut id) (touched_slots s touch.Modified g ++ result_if c)) stored ∙ ap (λ ss. map (ActualOut id) (touched_slots s touch.Modified g ++ ss)) (result_slots_of to s.program e) in
    ap₂ (λ ks more. Call id ∷ (ks ++ more)) ins outs ∙ ap (own_kinds s) (sym (ap own_doing is ∙ own-Invoke id l to g args))

pub function_is : (s : SeenProgram) (f : ℕ) (g : Function) (n : ℕ) (body : List Statement)
    → slice_get s.program.functions f ≡ Some g → n ≡ length g.params → body ≡ g.body → part_kinds s f n body ≡ function_kinds s.program (effects_in s) f
function_is s f g n body at count same =
    let p = s.program in
    let e = effects_in s in
    let params : parameters p f ≡ g.params = ap (λ (o : Option Function). option_map_or (λ (h : Function). h.params) o []) at in
    let doings : doings_of p f ≡ body_doings g.body = ap (λ (o : Option Function). option_map_or (λ (h : Function). body_doings h.body) o []) at in
    let ins : in_kinds s port.FormalIn n f ≡ formal_ins p e f =
    ap (λ m. map FormalIn (argument_slots 0 m ++ touched_slots s touch.Either f)) count ∙ ap (λ ss. map FormalIn (ss ++ touched_slots s touch.Either f)) (arguments_of 0 g.params ∙ ap (arguments_from 0) (sym params)) in
    let inner : all_vertices p e (body_doings body) ≡ all_vertices p e (doings_of p f) = ap (all_vertices p e) (ap body_doings same ∙ sym doings) in
    ap₂ (λ ks more. Entry ∷ (ks ++ (more ++ formal_outs p e f))) ins inner
