-- An expression that avoids more names avoids fewer.
use Rattle.std.proofs.Common.{◌≡◌, Bool, false, Option, Some, None}
use Rattle.pgo_base.specs.Lookup.{Name}
use Rattle.pgo_base.specs.Tree.{Tree, name, primed, number, text, truth, at, word, unary, binary, product, cond_of, case_of, case_other, let_in, quantified, choose, tuple, set_of, filter_of, image, fun_of, fun_set, record_of, record_set, except, index, field, call, unchanged, Trees, no_trees, more_trees, NamedTrees, no_named, more_named, TreePairs, no_arms, more_arms, BoundTrees, no_bound, more_bound, PathTrees, no_paths, more_paths}
use Rattle.pgo_syntax.specs.declared.binding.Origin.{Origin}
use Rattle.pgo_syntax.specs.declared.binding.Origin.TheVariants as origins
use Rattle.pgo_sections.specs.Plain.{PlainAll, PlainArms, PlainFields, PlainLet, PlainBound, PlainPaths}
use Rattle.pgo_translate.specs.Avoids.{Good, Free, Avoids}
use Rattle.pgo_translate.specs.Premises.{OriginAvoids}

module _ (bad worse : Name → Bool) (w : (x : Name) → worse x ≡ false → bad x ≡ false) where
  mutual
    pub avoids_fewer : (e : Tree) → Avoids worse e → Avoids bad e
    avoids_fewer (name x) h = w x h
    avoids_fewer (primed x) h = h
    avoids_fewer (number z) h = tt
    avoids_fewer (text s) h = tt
    avoids_fewer (truth b) h = tt
    avoids_fewer at h = tt
    avoids_fewer (word v) h = tt
    avoids_fewer (unary o a) h = avoids_fewer a h
    avoids_fewer (binary o a b) h = (avoids_fewer a h.0, avoids_fewer b h.1)
    avoids_fewer (product ts) h = all_fewer ts h
    avoids_fewer (cond_of p a b) h = (avoids_fewer p h.0, avoids_fewer a h.1, avoids_fewer b h.2)
    avoids_fewer (case_of gs) h = arms_fewer gs h
    avoids_fewer (case_other gs e) h = (arms_fewer gs h.0, avoids_fewer e h.1)
    avoids_fewer (let_in ds e) h = (let_fewer ds h.0, avoids_fewer e h.1)
    avoids_fewer (quantified q bs p) h = (bound_fewer bs h.0, avoids_fewer p h.1)
    avoids_fewer (choose x r p) h = (tt, avoids_fewer r h.1, avoids_fewer p h.2)
    avoids_fewer (tuple ts) h = all_fewer ts h
    avoids_fewer (set_of ts) h = all_fewer ts h
    avoids_fewer (filter_of x r p) h = (tt, avoids_fewer r h.1, avoids_fewer p h.2)
    avoids_fewer (image e x r) h = (tt, avoids_fewer r h.1, avoids_fewer e h.2)
    avoids_fewer (fun_of bs e) h = (bound_fewer bs h.0, avoids_fewer e h.1)
    avoids_fewer (fun_set a b) h = (avoids_fewer a h.0, avoids_fewer b h.1)
    avoids_fewer (record_of ds) h = fields_fewer ds h
    avoids_fewer (record_set ds) h = fields_fewer ds h
    avoids_fewer (except f us) h = (avoids_fewer f h.0, paths_fewer us h.1)
    avoids_fewer (index f ts) h = (avoids_fewer f h.0, all_fewer ts h.1)
    avoids_fewer (field r x) h = avoids_fewer r h
    avoids_fewer (call x ts) h = (w x h.0, all_fewer ts h.1)
    avoids_fewer (unchanged xs) h = h

    all_fewer : (ts : Trees) → PlainAll (Good worse) (Good worse) Free ts → PlainAll (Good bad) (Good bad) Free ts
    all_fewer no_trees h = tt
    all_fewer (more_trees t ts) h = (avoids_fewer t h.0, all_fewer ts h.1)

    arms_fewer : (gs : TreePairs) → PlainArms (Good worse) (Good worse) Free gs → PlainArms (Good bad) (Good bad) Free gs
    arms_fewer no_arms h = tt
    arms_fewer (more_arms g e gs) h = (avoids_fewer g h.0, avoids_fewer e h.1, arms_fewer gs h.2)

    fields_fewer : (ds : NamedTrees) → PlainFields (Good worse) (Good worse) Free ds → PlainFields (Good bad) (Good bad) Free ds
    fields_fewer no_named h = tt
    fields_fewer (more_named x t ds) h = (avoids_fewer t h.0, fields_fewer ds h.1)

    let_fewer : (ds : NamedTrees) → PlainLet (Good worse) (Good worse) Free ds → PlainLet (Good bad) (Good bad) Free ds
    let_fewer no_named h = tt
    let_fewer (more_named x t ds) h = (tt, avoids_fewer t h.1, let_fewer ds h.2)

    bound_fewer : (bs : BoundTrees) → PlainBound (Good worse) (Good worse) Free bs → PlainBound (Good bad) (Good bad) Free bs
    bound_fewer no_bound h = tt
    bound_fewer (more_bound xs r bs) h = (h.0, avoids_fewer r h.1, bound_fewer bs h.2)

    paths_fewer : (us : PathTrees) → PlainPaths (Good worse) (Good worse) Free us → PlainPaths (Good bad) (Good bad) Free us
    paths_fewer no_paths h = tt
    paths_fewer (more_paths ps e us) h = (all_fewer ps h.0, avoids_fewer e h.1, paths_fewer us h.2)

  pub origin_fewer : (o : Option Origin) → OriginAvoids worse o → OriginAvoids bad o
  origin_fewer None h = h
  origin_fewer (Some (origins.Equals e)) h = avoids_fewer e h
  origin_fewer (Some (origins.In e)) h = avoids_fewer e h
