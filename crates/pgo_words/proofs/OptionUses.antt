-- Which options a walk of `clap` lets pass, and the rows that it has then.
use Rattle.std.proofs.Common.{◌≡◌, ◌∙◌, Bool, cond, true, false, refl, sym, ap, subst, List, [], ◌∷◌, ◌++◌, Option, Some, None, is_some, true≢false, append_assoc}
use Rattle.clap.specs.Walk.{Text, has_row, settled, settled_rows}
use Rattle.clap.specs.Faults.{settle_fault}
use Rattle.clap.specs.Kinds.{or_else}
use Rattle.clap.specs.declared.error.kind.ErrorKind.TheVariants as kind
use Rattle.pgo_model.specs.ValueText.{same_bytes}
use Rattle.pgo_words.specs.Options.{find_bytes, is_one_of, AreOptions}
use Rattle.pgo_words.proofs.OptionSteps.{at}
use Rattle.pgo_words.proofs.OptionRows.{option_rules, option_rows, names_of, rows_has, settles, settle_fails, swapped}
use Rattle.pgo_words.proofs.OptionWalks.{AreKnown, known, ends, fails, nothing_first, nothing_then, has_kind}

abbrev Pairs : Type 0
Pairs = List (Text × Text)

none_is : {X : Type 0} (o : Option X) → is_some o ≡ false → o ≡ None
none_is None e = refl
none_is (Some x) e = absurd (true≢false e)

absent : (n v : Text) (o : Text × Text) (os : Pairs) → find_bytes n (o ∷ os) ≡ None → (same_bytes n o.0 ≡ false) × (find_bytes n os ≡ None)
absent n v o os e = go (same_bytes n o.0) refl e
  where
    go : (b : Bool) → same_bytes n o.0 ≡ b → cond b (Some o.1) (find_bytes n os) ≡ None → (same_bytes n o.0 ≡ false) × (find_bytes n os ≡ None)
    go true t h = absurd (true≢false (ap is_some h))
    go false t h = (t, h)

-- one option more whose name none has
value_more : (n : Text) (os : Pairs) (o : Text × Text) → find_bytes n os ≡ None → same_bytes n o.0 ≡ false → find_bytes n (os ++ o ∷ []) ≡ None
value_more n [] o e f = rw f refl
value_more n (d ∷ ds) o e f =
    let a = absent n [] d ds e in
    rw a.0 (value_more n ds o a.1 f)

module _ (names : List Text) where
  options_more : (os : Pairs) (o : Text × Text) → AreOptions names os → is_one_of o.0 names ≡ true → find_bytes o.0 os ≡ None → AreOptions names (os ++ o ∷ [])
  options_more [] o h k e = (k, refl, tt)
  options_more (d ∷ ds) o h k e =
      let a = absent o.0 [] d ds e in
      (h.0, value_more d.0 ds o h.1 (swapped d.0 o.0 ∙ a.0), options_more ds o h.2 k a.1)

  absent_after : (n : Text) (d o : Text × Text) (ds os : Pairs) → find_bytes d.0 (ds ++ o ∷ os) ≡ None → same_bytes d.0 o.0 ≡ false
  absent_after n d o [] os e = (absent d.0 [] o os e).0
  absent_after n d o (x ∷ ds) os e = absent_after n d o ds os (absent d.0 [] x (ds ++ o ∷ os) e).1

  -- the name of one is not among those before it
  options_before : (ds : Pairs) (o : Text × Text) (os : Pairs) → AreOptions names (ds ++ o ∷ os) → (is_one_of o.0 names ≡ true) × (find_bytes o.0 ds ≡ None)
  options_before [] o os h = (h.0, refl)
  options_before (d ∷ ds) o os h =
      let rest = options_before ds o os h.2 in
      let other : same_bytes o.0 d.0 ≡ false = swapped o.0 d.0 ∙ absent_after [] d o ds os h.1 in
      (rest.0, rw other rest.1)

module _ (name : Text) (ps : List (Bool × Text)) where
  no_row : (n : Text) (ds : Pairs) → find_bytes n ds ≡ None → has_row n (option_rows ds) ≡ false
  no_row n ds e = rows_has n ds ∙ ap is_some e

  settled_is : (ds : Pairs) (o : Text × Text) → is_one_of o.0 (names_of ps) ≡ true → find_bytes o.0 ds ≡ None
      → settled_rows (option_rules ps) (Some (o.0, o.1 ∷ [])) (option_rows ds) ≡ option_rows (ds ++ o ∷ [])
  settled_is ds o k e = let f = known name ps o.0 k in settles (option_rules ps) ds o.0 o.1 f.0 f.3 (no_row o.0 ds e)

  -- the use of an option that doesn't fail is its first
  once : (ds : Pairs) (o : Text × Text) → is_one_of o.0 (names_of ps) ≡ true → settle_fault (option_rules ps) false (at (option_rows ds) (Some (o.0, o.1 ∷ []))).held ≡ []
      → find_bytes o.0 ds ≡ None
  once ds o k e =
      let f = known name ps o.0 k in
      none_is _ (sym (rows_has o.0 ds) ∙ go (has_row o.0 (option_rows ds)) (sym (settle_fails (option_rules ps) ds o.0 o.1 f.0 f.3) ∙ e))
    where
      go : (b : Bool) → cond b (kind.ArgumentConflict ∷ []) [] ≡ [] → b ≡ false
      go true h = absurd (has_kind h)
      go false h = refl

  -- nothing fails at options of the command, each once
  pub options_pass : (ds : Pairs) (o : Text × Text) (os : Pairs) → AreOptions (names_of ps) (ds ++ o ∷ os)
      → (fails name ps (option_rows ds) (Some (o.0, o.1 ∷ [])) os ≡ []) × ((settled (option_rules ps) (ends name ps (option_rows ds) (Some (o.0, o.1 ∷ [])) os).held).rows ≡ option_rows (ds ++ o ∷ os))
  unfolding fails ends
  options_pass ds o [] h =
      let b = options_before (names_of ps) ds o [] h in
      let f = known name ps o.0 b.0 in
      (settle_fails (option_rules ps) ds o.0 o.1 f.0 f.3 ∙ ap (λ b. cond b (kind.ArgumentConflict ∷ []) []) (no_row o.0 ds b.1), settled_is ds o b.0 b.1)
  options_pass ds o (p ∷ os) h =
      let b = options_before (names_of ps) ds o (p ∷ os) h in
      let f = known name ps o.0 b.0 in
      let first = settle_fails (option_rules ps) ds o.0 o.1 f.0 f.3 ∙ ap (λ b. cond b (kind.ArgumentConflict ∷ []) []) (no_row o.0 ds b.1) in
      let is = settled_is ds o b.0 b.1 in
      let joined = append_assoc ds (o ∷ []) (p ∷ os) in
      let rest = options_pass (ds ++ o ∷ []) p os (subst (AreOptions (names_of ps)) (sym joined) h) in (
        ap (λ ks. or_else ks (fails name ps (settled_rows (option_rules ps) (Some (o.0, o.1 ∷ [])) (option_rows ds)) (Some (p.0, p.1 ∷ [])) os)) first
            ∙ ap (λ rs. fails name ps rs (Some (p.0, p.1 ∷ [])) os) is ∙ rest.0,
        ap (λ rs. (settled (option_rules ps) (ends name ps rs (Some (p.0, p.1 ∷ [])) os).held).rows) is ∙ rest.1 ∙ ap option_rows joined,
      )

  -- where nothing fails, no two have the same name
  pub options_differ : (ds : Pairs) (o : Text × Text) (os : Pairs) → AreOptions (names_of ps) ds → AreKnown ps (o ∷ os)
      → fails name ps (option_rows ds) (Some (o.0, o.1 ∷ [])) os ≡ [] → AreOptions (names_of ps) (ds ++ o ∷ os)
  unfolding fails
  options_differ ds o [] h k e = options_more (names_of ps) ds o h k.0 (once ds o k.0 e)
  options_differ ds o (p ∷ os) h k e =
      let new = once ds o k.0 (nothing_first _ _ e) in
      let is = settled_is ds o k.0 new in
      let joined = append_assoc ds (o ∷ []) (p ∷ os) in
      let rest = options_differ (ds ++ o ∷ []) p os (options_more (names_of ps) ds o h k.0 new) k.1
      (ap (λ rs. fails name ps rs (Some (p.0, p.1 ∷ [])) os) (sym is) ∙ nothing_then _ _ e) in
      subst (AreOptions (names_of ps)) joined rest
