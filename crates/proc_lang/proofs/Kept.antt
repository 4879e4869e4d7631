-- What steps keep of a draft: where there is no fault behind them there was none in front, and each statement
-- keeps to where the procedure runs.
use Rattle.std.proofs.Common.{◌≡◌, refl, ap, ℕ, Bool, true, false, not, List, [], ◌∷◌, ◌++◌, map, length, is_some, Option, Some, None, Result, Ok, Err, subst, sym, ◌∙◌}
use Rattle.std.specs.List.{AllByRecursion}
use Rattle.volt_catalog.specs.declared.procedure.ProcDef.{ProcDef}
use Rattle.volt_catalog.specs.declared.table.Table.{Table}
use Rattle.volt_catalog.specs.Rules.{Contents}
use Rattle.ddl_parse.specs.declared.procedure.ProcText.{ProcText}
use Rattle.ddl_parse.specs.declared.procedure.ProcBody.{ProcBody}
use Rattle.ddl_parse.specs.declared.procedure.ProcBody.TheVariants as written
use Rattle.ddl_parse.specs.declared.procedure.ReturnText.{ReturnText}
use Rattle.ddl_parse.specs.declared.procedure.ReturnText.TheVariants as returning
use Rattle.ddl_parse.specs.declared.procedure.StepText.{StepText, roll-StepText, map-StepText}
use Rattle.ddl_parse.specs.declared.procedure.StepText.TheOpen.{StepText-F as s}
use Rattle.ddl_parse.specs.declared.procedure.StepText.TheFolds.{fold-roll-StepText, ind-StepText}
use Rattle.sql_parse.specs.declared.statement.Select.{Select}
use Rattle.sql_parse.specs.declared.statement.Stmt.{Stmt}
use Rattle.sql_parse.specs.declared.statement.Stmt.TheVariants.{Insert, Update, Delete, Select as Selects}
use Rattle.sql_plan.specs.declared.prepared.Action.{Action}
use Rattle.sql_plan.specs.declared.prepared.Prepared.{Prepared}
use Rattle.sql_plan.specs.declared.program.Program.{Program}
use Rattle.sql_resolve.specs.declared.bound.Bound.{Bound}
use Rattle.sql_resolve.specs.declared.fault.CheckFault.{CheckFault}
use Rattle.sql_resolve.specs.declared.notes.Notes.{Notes}
use Rattle.sql_resolve.specs.declared.sort.Sort.{Sort}
use Rattle.volt_value.specs.declared.column.Class.{Class}
use Rattle.sql_resolve.specs.Bound.{Heads, head_named, heads_of, result_named}
use Rattle.sql_resolve.specs.Expressions.{Meaning, meaning_of}
use Rattle.sql_resolve.specs.Notes.{nothing, limited}
use Rattle.sql_check.specs.declared.examined.Examined.{Examined}
use Rattle.sql_check.specs.Checked.{examined}
use Rattle.sql_check.specs.From.{FromTables}
use Rattle.sql_check.specs.SelectStatement.{examined_from}
use Rattle.sql_check.specs.Statements.{scope_of, changed}
use Rattle.proc_lang.specs.declared.body.Body.{Body}
use Rattle.proc_lang.specs.declared.draft.Draft.{Draft}
use Rattle.proc_lang.specs.declared.fault.ProcFault.{ProcFault}
use Rattle.proc_lang.specs.declared.fault.ProcFault.TheVariants.{BadType, UnboundName, WritesReplicated}
use Rattle.proc_lang.specs.Faults.{worse_if, with_check}
use Rattle.proc_lang.specs.Drafts.{blamed_if, noted, fits_class, same_heads, variable_set, result_set, entered, left, may_not_write, with_statement}
use Rattle.proc_lang.specs.Values.{names_of, is_truth, may_be_truth, value_in, condition_in, values_in}
use Rattle.proc_lang.specs.Steps.{Makes, most_values, let_made, kept, sql_found, all_made, condition_made, result_returned, returned_of, make_step, made}
use Rattle.proc_lang.specs.Bodies.{body_found, body_of}
use Rattle.proc_lang.specs.Compiled.{accepted, answered, with_body, compiled}
use Rattle.proc_lang.specs.Laws.{keeps, Suits}

-- ---- faults

worse_if_before : (b : Bool) (f : ProcFault) (before : Option ProcFault) → worse_if b f before ≡ None → before ≡ None
worse_if_before true f before e = absurd (cc)
worse_if_before false f before e = e

worse_if_false : (b : Bool) (f : ProcFault) (before : Option ProcFault) → worse_if b f before ≡ None → b ≡ false
worse_if_false true f before e = absurd (cc)
worse_if_false false f before e = refl

with_check_before : (f : Option CheckFault) (before : Option ProcFault) → with_check f before ≡ None → before ≡ None
with_check_before None before e = e
with_check_before (Some f) before e = absurd (cc)

-- ---- what adds no statement

record Kept (d e : Draft) : Type 0 where
  fault : e.fault ≡ None → d.fault ≡ None
  statements : e.statements ≡ d.statements

kept_same : (d : Draft) → Kept d d
kept_same d = record { fault = λ e. e; statements = refl }

kept_then : (c d e : Draft) → Kept c d → Kept d e → Kept c e
kept_then c d e k l = record { fault = λ f. k.fault (l.fault f); statements = l.statements ∙ k.statements }

kept_blame_if : (b : Bool) (f : ProcFault) (d : Draft) → Kept d (blamed_if b f d)
kept_blame_if b f d = record { fault = worse_if_before b f d.fault; statements = refl }

kept_note : (f : Option CheckFault) (d : Draft) → Kept d (noted f d)
kept_note f d = record { fault = with_check_before f d.fault; statements = refl }

kept_variable : (name : List ℕ) (sort : Sort) (o : Option (ℕ × Class)) (d : Draft) → Kept d (variable_set name sort o d).0
kept_variable name sort (Some known) d = record { fault = worse_if_before (not (fits_class sort known.1)) BadType d.fault; statements = refl }
kept_variable name sort None d = record { fault = λ e. e; statements = refl }

kept_result : (name : List ℕ) (heads : Heads) (o : Option ℕ) (d : Draft) → Kept d (result_set name heads o d).0
kept_result name heads (Some n) d = record { fault = worse_if_before (not (same_heads (heads_of d.bound n) heads)) BadType d.fault; statements = refl }
kept_result name heads None d = record { fault = λ e. e; statements = refl }

kept_name : (name : Option (List ℕ)) (heads : Heads) (d : Draft) → Kept d (kept name heads d).0
kept_name None heads d = kept_same d
kept_name (Some name) heads d = kept_result name heads (result_named d.bound name) d

kept_noted : (b : Bool) (f : ProcFault) (g : Option CheckFault) (d : Draft) → Kept d (noted g (blamed_if b f d))
kept_noted b f g d = kept_then d (blamed_if b f d) (noted g (blamed_if b f d)) (kept_blame_if b f d) (kept_note g (blamed_if b f d))

kept_let : (name : List ℕ) (e : Meaning) (d : Draft) → Kept d (let_made name e d).0
kept_let name e d =
    let known : Draft = noted (value_in e nothing).0.fault (blamed_if (is_truth e.sort) BadType d) in
    kept_then d known (let_made name e d).0 (kept_noted (is_truth e.sort) BadType (value_in e nothing).0.fault d)
    (kept_variable name e.sort (head_named d.bound.variables name) known)

kept_condition : (e : Meaning) (d : Draft) → Kept d (condition_made e d).0
kept_condition e d = kept_noted (not (may_be_truth e.sort)) BadType (condition_in e nothing).0.fault d

kept_entered : (row : List ℕ) (o : Option ℕ) (d : Draft) → Kept d (entered row o d)
kept_entered row o d = record { fault = worse_if_before (not (is_some o)) UnboundName d.fault; statements = refl }

kept_left : (d : Draft) → Kept d (left d)
kept_left d = record { fault = λ e. e; statements = refl }

kept_returned : (o : Option ℕ) (d : Draft) → Kept d (result_returned o d).0
kept_returned None d = record { fault = λ e. absurd (cc); statements = refl }
kept_returned (Some n) d = kept_same d

kept_return : (what : ReturnText) (d : Draft) → Kept d (returned_of what d).0
kept_return returning.Nothing d = kept_same d
kept_return (returning.Result name) d = kept_returned (result_named d.bound name) d
kept_return (returning.Values es) d = kept_note (limited most_values (length es) (values_in (names_of d.bound) es nothing).0).fault d

-- ---- what adds statements

abbrev Good : Contents → Bool → List Prepared → Type 0
Good catalog single statements = AllByRecursion (Suits catalog single) statements

good_more : (catalog : Contents) (single : Bool) (xs : List Prepared) (x : Prepared) → Good catalog single xs → Suits catalog single x → Good catalog single (xs ++ x ∷ [])
good_more catalog single [] x g h = (h, tt)
good_more catalog single (y ∷ ys) x g h = (g.0, good_more catalog single ys x g.1 h)

record Sound (catalog : Contents) (single : Bool) (d e : Draft) : Type 0 where
  fault : e.fault ≡ None → d.fault ≡ None
  good : e.fault ≡ None → Good catalog single d.statements → Good catalog single e.statements

sound_kept : (catalog : Contents) (single : Bool) (d e : Draft) → Kept d e → Sound catalog single d e
sound_kept catalog single d e k = record { fault = k.fault; good = λ f g. subst (λ statements. Good catalog single statements) (sym k.statements) g }

sound_then : (catalog : Contents) (single : Bool) (c d e : Draft) → Sound catalog single c d → Sound catalog single d e → Sound catalog single c e
sound_then catalog single c d e k l = record { fault = λ f. k.fault (l.fault f); good = λ f g. l.good f (k.good (l.fault f) g) }

scope_keeps : (single partitioned : Bool) → keeps single (scope_of single partitioned) ≡ true
scope_keeps true partitioned = refl
scope_keeps false true = refl
scope_keeps false false = refl

abbrev ScopeKept : Bool → Option Examined → Type 0
ScopeKept single None = Unit {0}
ScopeKept single (Some found) = keeps single found.prepared.scope ≡ true

changed_scope : (program : Option Bound) (single : Bool) (o : Option (ℕ × Table)) (go : ℕ → Table → Notes → Notes × Action) → ScopeKept single (changed program single o go)
changed_scope program single None go = tt
changed_scope program single (Some found) go = scope_keeps single _

from_scope : (program : Option Bound) (single : Bool) (o : Option FromTables) (select : Select) → ScopeKept single (examined_from program o select single)
from_scope program single None select = tt
from_scope program single (Some from) select = scope_keeps single _

examined_scope : (catalog : Contents) (program : Option Bound) (single : Bool) (statement : Stmt) → ScopeKept single (examined catalog program statement single)
unfolding examined
examined_scope catalog program single (Insert x) = changed_scope program single _ _
examined_scope catalog program single (Update x) = changed_scope program single _ _
examined_scope catalog program single (Delete x) = changed_scope program single _ _
examined_scope catalog program single (Selects x) = from_scope program single _ x

sound_statement : (catalog : Contents) (single : Bool) (found : Examined) (d : Draft) → keeps single found.prepared.scope ≡ true
    → Sound catalog single d (with_statement catalog single found d)
sound_statement catalog single found d h = record {
  fault = λ e. with_check_before found.fault d.fault (worse_if_before (may_not_write catalog single found.prepared) WritesReplicated (with_check found.fault d.fault) e);
  good = λ e g. good_more catalog single d.statements found.prepared g (record { scope = h; writes = worse_if_false (may_not_write catalog single found.prepared) WritesReplicated (with_check found.fault d.fault) e });
}

sound_sql : (catalog : Contents) (single : Bool) (name : Option (List ℕ)) (o : Option Examined) (d : Draft) → ScopeKept single o
    → Sound catalog single d (sql_found catalog single name o d).0
sound_sql catalog single name None d h = record { fault = λ e. absurd (cc); good = λ e g. g }
sound_sql catalog single name (Some found) d h =
    sound_then catalog single d _ _ (sound_kept catalog single d _ (kept_name name found.prepared.columns d)) (sound_statement catalog single found _ h)

-- ---- steps

abbrev StepSound : Contents → Bool → StepText → Type 0
StepSound catalog single text = (d : Draft) → Sound catalog single d (made catalog single text d).0

abbrev Told : Contents → Bool → Type 0
Told catalog single = (text : StepText) × StepSound catalog single text

all_sound : (catalog : Contents) (single : Bool) (xs : List (Told catalog single)) (d : Draft)
    → Sound catalog single d (all_made (map (made catalog single) (map (λ (x : Told catalog single). x.0) xs)) d).0
all_sound catalog single [] d = sound_kept catalog single d d (kept_same d)
all_sound catalog single (x ∷ xs) d = sound_then catalog single d _ _ (x.1 d) (all_sound catalog single xs (made catalog single x.0 d).0)

layer : (catalog : Contents) (single : Bool) (y : s (Told catalog single)) (d : Draft)
    → Sound catalog single d (make_step catalog single (map-StepText StepText Makes (made catalog single) (map-StepText (Told catalog single) StepText (λ x. x.0) y)) d).0
layer catalog single (s.Let name e) d = sound_kept catalog single d _ (kept_let name (meaning_of (names_of d.bound) e) d)
layer catalog single (s.Sql name statement) d =
    sound_sql catalog single name (examined catalog (Some d.bound) statement single) d (examined_scope catalog (Some d.bound) single statement)
layer catalog single (s.If e steps otherwise) d =
    sound_then catalog single d _ _ (sound_kept catalog single d (condition_made (meaning_of (names_of d.bound) e) d).0 (kept_condition (meaning_of (names_of d.bound) e) d))
    (sound_then catalog single _ _ _ (all_sound catalog single steps _) (all_sound catalog single otherwise _))
layer catalog single (s.For row result steps) d =
    sound_then catalog single d _ _ (sound_kept catalog single d (entered row (result_named d.bound result) d) (kept_entered row (result_named d.bound result) d))
    (sound_then catalog single _ _ _ (all_sound catalog single steps _) (sound_kept catalog single _ _ (kept_left _)))
layer catalog single (s.Abort text) d = sound_kept catalog single d d (kept_same d)
layer catalog single (s.Return what) d = sound_kept catalog single d _ (kept_return what d)

made_roll : (catalog : Contents) (single : Bool) (x : s StepText) (d : Draft)
    → made catalog single (roll-StepText x) d ≡ make_step catalog single (map-StepText StepText Makes (made catalog single) x) d
made_roll catalog single x d = ap (λ f. f d) (fold-roll-StepText Makes (make_step catalog single) x)

made_sound : (catalog : Contents) (single : Bool) (text : StepText) → StepSound catalog single text
made_sound catalog single = ind-StepText (StepSound catalog single) (λ x y is d.
    subst (λ z. Sound catalog single d z.0) (sym (made_roll catalog single x d))
    (subst (λ z. Sound catalog single d (make_step catalog single (map-StepText StepText Makes (made catalog single) z) d).0) is (layer catalog single y d)))

steps_sound : (catalog : Contents) (single : Bool) (texts : List StepText) (d : Draft) → Sound catalog single d (all_made (map (made catalog single) texts) d).0
steps_sound catalog single [] d = sound_kept catalog single d d (kept_same d)
steps_sound catalog single (text ∷ texts) d = sound_then catalog single d _ _ (made_sound catalog single text d) (steps_sound catalog single texts (made catalog single text d).0)

-- ---- procedures

abbrev BodyGood : Contents → Bool → Option Body → Type 0
BodyGood catalog single None = Unit {0}
BodyGood catalog single (Some body) = body.fault ≡ None → Good catalog single body.program.statements

found_good : (catalog : Contents) (single : Bool) (o : Option Examined) → ScopeKept single o → BodyGood catalog single (body_found catalog single o)
found_good catalog single None h = tt
found_good catalog single (Some found) h = λ e. (record { scope = h; writes = worse_if_false (may_not_write catalog single found.prepared) WritesReplicated (with_check found.fault None) e }, tt)

body_good : (catalog : Contents) (single : Bool) (text : ProcBody) → BodyGood catalog single (body_of catalog single text)
body_good catalog single (written.Program text) = λ e. (steps_sound catalog single text.steps _).good (worse_if_before _ _ _ e) tt
body_good catalog single (written.Statement statement) = found_good catalog single (examined catalog None statement single) (examined_scope catalog None single statement)

accepted_is : (f : Option ProcFault) (x answer : ProcDef × Program) → accepted f x ≡ Ok answer → (f ≡ None) × (x ≡ answer)
accepted_is None x answer e = (refl, cc)
accepted_is (Some f) x answer e = absurd (cc)

answered_good : (catalog : Contents) (single : Bool) (text : ProcText) (body : Body) (part : Result (Option (ℕ × ℕ × ℕ)) ProcFault) (answer : ProcDef × Program)
    → BodyGood catalog single (Some body) → answered text body part ≡ Ok answer → Good catalog single answer.1.statements
answered_good catalog single text body (Ok part) answer h e =
    let is = accepted_is body.fault _ answer e in
    subst (λ x. Good catalog single x.1.statements) is.1 (h is.0)
answered_good catalog single text body (Err f) answer h e = absurd (cc)

with_body_good : (catalog : Contents) (single : Bool) (text : ProcText) (o : Option Body) (answer : ProcDef × Program)
    → BodyGood catalog single o → with_body catalog text o ≡ Ok answer → Good catalog single answer.1.statements
with_body_good catalog single text None answer h e = absurd (cc)
with_body_good catalog single text (Some body) answer h e = answered_good catalog single text body _ answer h e

pub statements_keep : (catalog : Contents) (text : ProcText) (answer : ProcDef × Program) → compiled catalog text ≡ Ok answer
    → AllByRecursion (Suits catalog (is_some text.partition)) answer.1.statements
unfolding compiled
statements_keep catalog text answer e =
    with_body_good catalog (is_some text.partition) text (body_of catalog (is_some text.partition) text.body) answer
    (body_good catalog (is_some text.partition) text.body) e
