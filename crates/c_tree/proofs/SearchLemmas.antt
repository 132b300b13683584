-- A search of statements, list by list.
use Rattle.std.proofs.Common.{◌≡◌, ◌≢◌, ◌<◌, ◌≤◌, ◌↔◌, ◌+◌, ℕ, List, [], ◌∷◌, ◌++◌, Option, Some, None, length, take, drop, get_or, refl, append-nil, ap, sym, subst, ◌∙◌, append_assoc, arith, All, Contains, MatchOption, IsNone}
use Rattle.std.proofs.lemmas.List.{take_more, take_all, take-append-drop}
use Rattle.std.proofs.lemmas.List.Elements.{All-nil, All-cons, All-append, All-contains, Contains-push, Contains-append_left, Contains-append_right}
use Rattle.std.specs.Borrow.{Bor}
use Rattle.std.specs.Option.{option_to_list, option_map}
use Rattle.c_tree.specs.declared.statement.Statement.{Statement}
use Rattle.c_tree.specs.declared.statement.Statement.TheVariants as s
use Rattle.c_tree.specs.declared.program.Function.{Function}
use Rattle.c_tree.specs.declared.program.Program.{Program}
use Rattle.c_tree.specs.declared.expr.Expr.{Expr}
use Rattle.c_tree.specs.declared.statement.Arm.{Arm, out-Arm}
use Rattle.c_tree.specs.declared.numbered.Start.{Start}
use Rattle.c_tree.specs.Numbered.{Starts, start, starts, body_starts, inner, arms_inner, own_id, own_start, StandsIn, Lacks, function_starts, program_starts, IsNumbered, HasNumber, IsWellNumbered}
use Rattle.c_tree.specs.Numbered.StandsIn.{here, inside, later}
use Rattle.c_tree.specs.Search.{IsFound, IsFree, Finds}
use Rattle.c_tree.proofs.LayerLemmas.{body_starts-append, starts-inner, inner-If, inner-For}

pub stands_left : {a : List Statement} {one : Statement} → StandsIn a one → (b : List Statement) → StandsIn (a ++ b) one
stands_left here b = here
stands_left (inside h) b = inside h
stands_left (later h) b = later (stands_left h b)

pub stands_right : (a : List Statement) {b : List Statement} {one : Statement} → StandsIn b one → StandsIn (a ++ b) one
stands_right [] h = h
stands_right (first ∷ rest) h = later (stands_right rest h)

pub found_left : (id : ℕ) (a b : List Statement) (one : Statement) → IsFound id a one → IsFound id (a ++ b) one
found_left id a b one h = record { number = h.number; stands = stands_left h.stands b }

pub found_right : (id : ℕ) (a b : List Statement) (one : Statement) → IsFound id b one → IsFound id (a ++ b) one
found_right id a b one h = record { number = h.number; stands = stands_right a h.stands }

pub free_both : (id : ℕ) (a b : List Statement) → IsFree id a → IsFree id b → IsFree id (a ++ b)
free_both id a b h k = record {
  others = rw (body_starts-append a b) (All-append (λ (x : Start). x.id ≢ id) (body_starts a) (body_starts b) h.others k.others);
}

-- one statement, that itself has the number or does not
pub found_own : (id : ℕ) (one : Statement) → own_id one ≡ Some id → IsFound id (one ∷ []) one
found_own id one h = record { number = h; stands = here }

pub found_inner : (id : ℕ) (outer one : Statement) → IsFound id (inner outer) one → IsFound id (outer ∷ []) one
found_inner id outer one h = record { number = h.number; stands = inside h.stands }

none_own : (id : ℕ) (own : Option Start) → option_map (λ (x : Start). x.id) own ≢ Some id → All (λ (x : Start). x.id ≢ id) (option_to_list own)
none_own id None h = All-nil (λ (x : Start). x.id ≢ id)
none_own id (Some x) h = All-cons (λ (y : Start). y.id ≢ id) x [] (λ e. h (ap Some e)) (All-nil (λ (y : Start). y.id ≢ id))

pub free_inner : (id : ℕ) (one : Statement) → own_id one ≢ Some id → IsFree id (inner one) → IsFree id (one ∷ [])
free_inner id one h k = record {
  others = rw (append-nil (starts one), starts-inner one)
      (All-append (λ (x : Start). x.id ≢ id) (option_to_list (own_start one)) (body_starts (inner one)) (none_own id (own_start one) h) k.others);
}

-- the item at a place, after those before it
pub free_more : (id : ℕ) (all : List Statement) (i : ℕ) (one : Statement) → i < length all → one ≡ get_or all i one → IsFree id (take i all) → IsFree id (one ∷ []) → IsFree id (take (i + 1) all)
free_more id all i one lt e h k =
    let P : List Statement → Type 0 = λ some. IsFree id some in
    let Q : Statement → Type 0 = λ x. IsFree id (x ∷ []) in
    subst P (sym (take_more all i one lt)) (free_both id (take i all) (get_or all i one ∷ []) h (subst Q e k))

stands_at : (all : List Statement) (i : ℕ) (at one : Statement) → i < length all → at ≡ get_or all i at → StandsIn (at ∷ []) one → StandsIn all one
stands_at all i at one lt e h =
    let P : List Statement → Type 0 = λ some. StandsIn some one in
    let Q : Statement → Type 0 = λ x. StandsIn (x ∷ []) one in
    subst P (take-append-drop (i + 1) all)
    (stands_left (subst P (sym (take_more all i at lt)) (stands_right (take i all) (subst Q e h))) (drop (i + 1) all))

pub found_at : (id : ℕ) (all : List Statement) (i : ℕ) (at one : Statement) → i < length all → at ≡ get_or all i at → IsFound id (at ∷ []) one → IsFound id all one
found_at id all i at one lt e h = record { number = h.number; stands = stands_at all i at one lt e h.stands }

arms_inner-append : (a b : List Arm) → arms_inner (a ++ b) ≡ arms_inner a ++ arms_inner b
arms_inner-append [] b = refl
arms_inner-append (one ∷ rest) b =
    ap (λ found. (out-Arm one).body ++ found) (arms_inner-append rest b) ∙ sym (append_assoc (out-Arm one).body (arms_inner rest) (arms_inner b))

arms_inner-more : (arms : List Arm) (i : ℕ) (d : Arm) → i < length arms → arms_inner (take (i + 1) arms) ≡ arms_inner (take i arms) ++ (out-Arm (get_or arms i d)).body
arms_inner-more arms i d lt =
    ap arms_inner (take_more arms i d lt) ∙ arms_inner-append (take i arms) (get_or arms i d ∷ []) ∙ ap (λ found. arms_inner (take i arms) ++ found) (append-nil (out-Arm (get_or arms i d)).body)

arms_inner-split : (arms : List Arm) (i : ℕ) (d : Arm) → i < length arms → arms_inner arms ≡ (arms_inner (take i arms) ++ (out-Arm (get_or arms i d)).body) ++ arms_inner (drop (i + 1) arms)
arms_inner-split arms i d lt =
    sym (ap arms_inner (take-append-drop (i + 1) arms)) ∙ arms_inner-append (take (i + 1) arms) (drop (i + 1) arms) ∙ ap (λ found. found ++ arms_inner (drop (i + 1) arms)) (arms_inner-more arms i d lt)

pub free_arm : (id : ℕ) (arms : List Arm) (i : ℕ) (arm : Arm) (some : List Statement) → i < length arms → arm ≡ get_or arms i arm → some ≡ (out-Arm arm).body → IsFree id (arms_inner (take i arms)) → IsFree id some → IsFree id (arms_inner (take (i + 1) arms))
free_arm id arms i arm some lt e same h k =
    let P : List Statement → Type 0 = λ all. IsFree id all in
    let Q : Arm → Type 0 = λ a. IsFree id (out-Arm a).body in
    subst P (sym (arms_inner-more arms i arm lt))
    (free_both id (arms_inner (take i arms)) (out-Arm (get_or arms i arm)).body h (subst Q e (subst P same k)))

pub found_arm : (id : ℕ) (arms : List Arm) (i : ℕ) (arm : Arm) (one : Statement) (some : List Statement) → i < length arms → arm ≡ get_or arms i arm → some ≡ (out-Arm arm).body → IsFound id some one → IsFound id (arms_inner arms) one
found_arm id arms i arm one some lt e same h =
    let P : List Statement → Type 0 = λ all. IsFound id all one in
    let Q : Arm → Type 0 = λ a. IsFound id (out-Arm a).body one in
    let before : List Statement = arms_inner (take i arms) in
    let at : List Statement = (out-Arm (get_or arms i arm)).body in
    subst P (sym (arms_inner-split arms i arm lt))
    (found_left id (before ++ at) (arms_inner (drop (i + 1) arms)) one (found_right id before at one (subst Q e (subst P same h))))

-- The answer of a search that goes on after what is free of the number.
finds_after : (id : ℕ) (a b : List Statement) (answer : Option (Bor Statement)) → IsFree id a → Finds id b answer → Finds id (a ++ b) answer
finds_after id a b None h k = free_both id a b h k
finds_after id a b (Some found) h k = found_right id a b found.now k

pub finds_inner : (id : ℕ) (one : Statement) (answer : Option (Bor Statement)) → own_id one ≢ Some id → Finds id (inner one) answer → Finds id (one ∷ []) answer
finds_inner id one None h k = free_inner id one h k
finds_inner id one (Some found) h k = found_inner id one found.now k

pub found_then : (i l : ℕ) (e : Expr) (a b : List Statement) (id : ℕ) (outer one : Statement) (some : List Statement) → outer ≡ s.If i l e a b → some ≡ a → IsFound id some one → IsFound id (inner outer) one
found_then i l e a b id outer one some is same h =
    let P : List Statement → Type 0 = λ all. IsFound id all one in
    subst P (sym (ap inner is ∙ inner-If i l e a b)) (found_left id a b one (subst P same h))

pub finds_else : (i l : ℕ) (e : Expr) (a b : List Statement) (id : ℕ) (outer : Statement) (some others : List Statement) (answer : Option (Bor Statement)) → outer ≡ s.If i l e a b → some ≡ a → others ≡ b → IsFree id some → Finds id others answer → Finds id (inner outer) answer
finds_else i l e a b id outer some others answer is same same' h k =
    let P : List Statement → Type 0 = λ all. Finds id all answer in
    let F : List Statement → Type 0 = λ all. IsFree id all in
    subst P (sym (ap inner is ∙ inner-If i l e a b)) (finds_after id a b answer (subst F same h) (subst P same' k))

pub found_init : (i l : ℕ) (e : Expr) (first step : Option Statement) (b : List Statement) (id : ℕ) (outer one : Statement) → outer ≡ s.For i l first e step b → IsFound id (option_to_list first) one → IsFound id (inner outer) one
found_init i l e first step b id outer one is h =
    let P : List Statement → Type 0 = λ all. IsFound id all one in
    subst P (sym (ap inner is ∙ inner-For i l first e step b)) (found_left id (option_to_list first) (option_to_list step ++ b) one h)

pub found_step : (i l : ℕ) (e : Expr) (first step : Option Statement) (b : List Statement) (id : ℕ) (outer one : Statement) → outer ≡ s.For i l first e step b → IsFound id (option_to_list step) one → IsFound id (inner outer) one
found_step i l e first step b id outer one is h =
    let P : List Statement → Type 0 = λ all. IsFound id all one in
    subst P (sym (ap inner is ∙ inner-For i l first e step b))
    (found_right id (option_to_list first) (option_to_list step ++ b) one (found_left id (option_to_list step) b one h))

pub finds_repeated : (i l : ℕ) (e : Expr) (first step : Option Statement) (b : List Statement) (id : ℕ) (outer : Statement) (others : List Statement) (answer : Option (Bor Statement)) → outer ≡ s.For i l first e step b → others ≡ b → IsFree id (option_to_list first) → IsFree id (option_to_list step) → Finds id others answer → Finds id (inner outer) answer
finds_repeated i l e first step b id outer others answer is same h h' k =
    let P : List Statement → Type 0 = λ all. Finds id all answer in
    subst P (sym (ap inner is ∙ inner-For i l first e step b))
    (finds_after id (option_to_list first) (option_to_list step ++ b) answer h (finds_after id (option_to_list step) b answer h' (subst P same k)))

function_starts-append : (a b : List Function) → function_starts (a ++ b) ≡ function_starts a ++ function_starts b
function_starts-append [] b = refl
function_starts-append (f ∷ rest) b =
    ap (λ found. body_starts f.body ++ found) (function_starts-append rest b) ∙ sym (append_assoc (body_starts f.body) (function_starts rest) (function_starts b))

function_starts-more : (all : List Function) (i : ℕ) (f : Function) → i < length all → function_starts (take (i + 1) all) ≡ function_starts (take i all) ++ body_starts (get_or all i f).body
function_starts-more all i f lt =
    ap function_starts (take_more all i f lt) ∙ function_starts-append (take i all) (get_or all i f ∷ []) ∙ ap (λ found. function_starts (take i all) ++ found) (append-nil (body_starts (get_or all i f).body))

function_starts-split : (all : List Function) (i : ℕ) (f : Function) → i < length all → function_starts all ≡ (function_starts (take i all) ++ body_starts (get_or all i f).body) ++ function_starts (drop (i + 1) all)
function_starts-split all i f lt =
    sym (ap function_starts (take-append-drop (i + 1) all)) ∙ function_starts-append (take (i + 1) all) (drop (i + 1) all) ∙ ap (λ found. found ++ function_starts (drop (i + 1) all)) (function_starts-more all i f lt)

-- the function at a place, after those before it
pub lacks_more : (id : ℕ) (all : List Function) (i : ℕ) (f : Function) (some : List Statement) → i < length all → f ≡ get_or all i f → some ≡ f.body → Lacks id (function_starts (take i all)) → IsFree id some → Lacks id (function_starts (take (i + 1) all))
lacks_more id all i f some lt e same h k =
    let P : Starts → Type 0 = λ found. Lacks id found in
    let Q : List Statement → Type 0 = λ body. IsFree id body in
    let R : Function → Type 0 = λ x. IsFree id x.body in
    let last : Starts = body_starts (get_or all i f).body in
    let here : IsFree id (get_or all i f).body = subst R e (subst Q same k) in
    subst P (sym (function_starts-more all i f lt))
    (record { others = All-append (λ (x : Start). x.id ≢ id) (function_starts (take i all)) last h.others here.others })

pub found_in_program : (id : ℕ) (p : Program) (all : List Function) (i : ℕ) (f : Function) (one : Statement) (some : List Statement) → all ≡ p.functions → i < length all → f ≡ get_or all i f → some ≡ f.body → IsFound id some one → IsNumbered p id one
found_in_program id p all i f one some is lt e same h =
    let P : List Statement → Type 0 = λ body. StandsIn body one in
    let Q : List Function → Type 0 = λ functions. Contains functions f in
    let at : Contains all f = (i, lt, sym e) in
    record { number = h.number; stands = record { function = f; defined = subst Q is at; stands = subst P same h.stands } }

pub lacks_all : (id : ℕ) (p : Program) (all : List Function) (i : ℕ) → all ≡ p.functions → length all ≤ i → Lacks id (function_starts (take i all)) → Lacks id (program_starts p)
lacks_all id p all i is le h =
    let P : List Function → Type 0 = λ functions. Lacks id (function_starts functions) in
    subst P is (subst P (take_all i all le) h)

contains_own : (own : Option Start) (x : Start) → own ≡ Some x → Contains (option_to_list own) x
contains_own own x e =
    let P : Option Start → Type 0 = λ some. Contains (option_to_list some) x in
    subst P (sym e) (Contains-push [] x)

stands_starts : {all : List Statement} {one : Statement} → StandsIn all one → (x : Start) → own_start one ≡ Some x → Contains (body_starts all) x
stands_starts (here {one} {rest}) x e =
    let P : Starts → Type 0 = λ found. Contains found x in
    Contains-append_left (starts one) (body_starts rest) x
    (subst P (sym (starts-inner one)) (Contains-append_left (option_to_list (own_start one)) (body_starts (inner one)) x (contains_own (own_start one) x e)))
stands_starts (inside {outer} {one} {rest} h) x e =
    let P : Starts → Type 0 = λ found. Contains found x in
    Contains-append_left (starts outer) (body_starts rest) x
    (subst P (sym (starts-inner outer)) (Contains-append_right (option_to_list (own_start outer)) (body_starts (inner outer)) x (stands_starts h x e)))
stands_starts (later {first} {one} {rest} h) x e =
    Contains-append_right (starts first) (body_starts rest) x (stands_starts h x e)

function_contains : (all : List Function) (i : ℕ) (f : Function) (x : Start) → i < length all → f ≡ get_or all i f → Contains (body_starts f.body) x → Contains (function_starts all) x
function_contains all i f x lt e h =
    let P : Starts → Type 0 = λ found. Contains found x in
    let R : Function → Type 0 = λ g. Contains (body_starts g.body) x in
    let last : Starts = body_starts (get_or all i f).body in
    subst P (sym (function_starts-split all i f lt))
    (Contains-append_left (function_starts (take i all) ++ last) (function_starts (drop (i + 1) all)) x
    (Contains-append_right (function_starts (take i all)) last x (subst R e h)))

pub own_of : (id : ℕ) (own : Option Start) → option_map (λ (x : Start). x.id) own ≡ Some id → (line : ℕ) × (own ≡ Some (start id line))
own_of id None e = absurd (cc)
own_of id (Some x) e = (x.line, ap (λ (k : ℕ). Some (start k x.line)) (cc))

pub has_number : (p : Program) (id : ℕ) (one : Statement) → IsNumbered p id one → HasNumber p id
has_number p id one h =
    let own : (line : ℕ) × (own_start one ≡ Some (start id line)) = own_of id (own_start one) h.number in
    let at : Contains p.functions h.stands.function = h.stands.defined in
    (own.0, function_contains p.functions at.0 h.stands.function (start id own.0) at.1 (sym at.2) (stands_starts h.stands.stands (start id own.0) own.1))

lacks_number : (p : Program) (id : ℕ) → Lacks id (program_starts p) → HasNumber p id → ⊥
lacks_number p id h (line, at) = All-contains (λ (x : Start). x.id ≢ id) (program_starts p) (start id line) h.others at refl

pub none_exactly : (p : Program) (id : ℕ) (answer : Option (Bor Statement)) → MatchOption answer (Lacks id (program_starts p)) (λ s. IsNumbered p id s.now) → IsWellNumbered p → IsNone answer ↔ (p.statements ≤ id)
none_exactly p id None h known =
    (λ is. omega (arith, λ (lt : id < p.statements). lacks_number p id h ((known id).0 lt)), λ le. refl)
none_exactly p id (Some s) h known =
    (λ e. absurd (cc), λ le. absurd (omega (arith, (known id).1 (has_number p id s.now h))))
