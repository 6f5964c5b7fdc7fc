-- What resolving a part of an item makes of the resolver.
use Rattle.std.specs.Prelude.{ℕ, List, [], ◌∷◌, ◌++◌, map, Option}
use Rattle.rs_tree.specs.declared.answers.Found.{Found}
use Rattle.rs_tree.specs.declared.tree.Param.{Param}
use Rattle.rs_tree.specs.declared.tree.Path as path
use Rattle.rs_tree.specs.Plain.{Exp, Sta, Stas, Arms}
use Rattle.rs_tree.specs.Leaves.{leaves, leaves_in}
use Rattle.rs_names.specs.declared.resolve.Resolver.{Resolver}
use Rattle.rs_names.specs.Resolved.{Locals, path_answer, with_params, after, after_all, sta_answers, stas_answers, arms_answers}

abbrev pub look : Resolver → Locals → path.Path → Found
look s = path_answer s.names.now s.module.now

abbrev pub with_name : List ℕ → Resolver → Resolver
with_name name s = record s { locals = name ∷ s.locals }

abbrev pub within : List Param → Resolver → Resolver
within params s = record s { locals = with_params params s.locals }

abbrev pub told : List Found → Resolver → Resolver
told fs s = record s { found = s.found ++ fs }

abbrev pub told_path : path.Path → Resolver → Resolver
told_path p s = told (look s s.locals p ∷ []) s

abbrev pub told_exp : Exp path.Path → Resolver → Resolver
told_exp e s = told (map (look s s.locals) (leaves e)) s

abbrev pub told_tail : Option (Exp path.Path) → Resolver → Resolver
told_tail e s = told (map (look s s.locals) (leaves_in e)) s

abbrev pub told_sta : Sta path.Path → Resolver → Resolver
told_sta t s = record s { found = s.found ++ sta_answers (look s) t s.locals; locals = after t s.locals }

abbrev pub told_stas : Stas path.Path → Resolver → Resolver
told_stas t s = record s { found = s.found ++ stas_answers (look s) t s.locals; locals = after_all t s.locals }

abbrev pub told_block : Stas path.Path → Resolver → Resolver
told_block t s = told (stas_answers (look s) t s.locals) s

abbrev pub told_arms : Arms path.Path → Resolver → Resolver
told_arms t s = told (arms_answers (look s) t s.locals) s

-- several paths, one after the other
abbrev pub told_all : List path.Path → Resolver → Resolver
told_all ps s = told (map (look s s.locals) ps) s
