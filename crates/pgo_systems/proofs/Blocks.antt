-- The blocks of mapping macros give values within limits, and a section from such values ends in such values.
use Rattle.std.proofs.Common.{◌≡◌, Bool, true, false, if◌then◌else◌, IsTrue, List, [], ◌∷◌, Option, Some, None, ◌⊎◌, inl, inr, refl, subst, sym, option_map}
use Rattle.std.proofs.lemmas.Option.{same_Some}
use Rattle.pgo_base.specs.Data.{Data, string}
use Rattle.pgo_base.specs.Lookup.{Name, Names, Vars, same_name, find}
use Rattle.pgo_model.specs.Options.{on}
use Rattle.pgo_model.specs.Outcome.{NoValue, Next, Stuck}
use Rattle.pgo_model.specs.State.{is_shallow}
use Rattle.pgo_model.specs.System.{Words}
use Rattle.pgo_model.specs.Val.{Meaning}
use Rattle.pgo_model.specs.Written.{pc}
use Rattle.pgo_bound.specs.Among.{IsAmong}
use Rattle.pgo_model.specs.Names.{is_among}
use Rattle.pgo_sections.specs.Code.{Code, content_name, value_name}
use Rattle.pgo_sections.specs.Context.{Context, block_context, content_state, is_assigned, new_content}
use Rattle.pgo_sections.specs.Exec.{Gives, Stops, read_end, write_end}
use Rattle.pgo_sections.specs.Macros.{no_reads, no_writes, exec_block, block_read, block_write, exec}
use Rattle.pgo_sections.specs.BoundValues.{put_part, value_put}
use Rattle.pgo_sections.specs.SectionRun.{SectionRun, begun, Out, Go, Jump, Yielded, Stop}
use Rattle.pgo_sections.specs.Section.{closed_value, closed, if_shallow, end_of, section}
use Rattle.pgo_values.specs.Within.{IsWithin, Within, AllWithin, NamesWithin, FoundWithin, CallsWithin, ContextWithin}
use Rattle.pgo_systems.specs.Literals.{CodeWithin}
use Rattle.pgo_values.proofs.Lists.{both_parts}
use Rattle.pgo_values.proofs.Operators.{none_within, some_within}
use Rattle.pgo_values.proofs.Trees.{named_more}
use Rattle.pgo_values.proofs.Definitions.{no_names}
use Rattle.pgo_systems.proofs.SectionCode.{OutWithin, EndWithin, ReadWithin, ReadsWithin, WritesWithin, code_within, more_found, part_within}
use Rattle.pgo_values.specs.Limits.{Limits}

module _ (limits : Limits) where
  pub nothing_found : FoundWithin limits []
  nothing_found x = none_within limits

  block_within : (defs : List Meaning) (id : Data) → CallsWithin limits defs → IsWithin limits id → ContextWithin limits (block_context defs id)
  block_within defs id c h = record { start = nothing_found; id = h; calls = c }

  block_out : (block : Code) (defs : List Meaning) (id : Data) (env : Names) (d : Words) (run : SectionRun) → CodeWithin limits block → CallsWithin limits defs → IsWithin limits id → NamesWithin limits env → FoundWithin limits run.changes
      → OutWithin limits (exec_block (block_context defs id) block env d run)
  block_out block defs id env d run l c h n f =
      code_within limits no_reads no_writes (λ b ds i old d cs l c h g. tt) (λ b ds i old v d cs l c h g k. tt) (block_context defs id) (block_within defs id c h) block env d run l n f

  content_found : (old : Data) → IsWithin limits old → FoundWithin limits (content_state old)
  content_found old h = more_found limits content_name old [] h nothing_found

  new_within : (ch : Vars) (new : Option Data) → FoundWithin limits ch → new_content ch ≡ Some new → Within limits new
  new_within ch new h e = go (is_assigned ch) (find content_name ch) (h content_name) e
    where
      go : (b : Bool) (o : Option Data) → Within limits o → (if b then option_map (λ v. Some v) o else Some None) ≡ Some new → Within limits new
      go true None c k = absurd (cc)
      go true (Some v) c k = subst (Within limits) (same_Some (Some v) new k) c
      go false o c k = subst (Within limits) (same_Some None new k) (none_within limits)

  read_end_within : (o : Out) → OutWithin limits o → EndWithin limits (ReadWithin limits) (read_end o)
  read_end_within (Go run) h = tt
  read_end_within (Jump l run) h = tt
  read_end_within (Yielded v run) h = go (new_content run.changes) refl
    where
      go : (o : Option (Option Data)) → new_content run.changes ≡ o → EndWithin limits (ReadWithin limits) (on (Stops NoValue run.choices) o (λ new. Gives (v, new) run.choices))
      go None e = tt
      go (Some new) e = (h.0, new_within run.changes new h.1 e)
  read_end_within (Stop kind run) h = tt

  write_end_within : (o : Out) → OutWithin limits o → EndWithin limits (IsWithin limits) (write_end o)
  write_end_within (Go run) h = tt
  write_end_within (Jump l run) h = tt
  write_end_within (Yielded v run) h = h.0
  write_end_within (Stop kind run) h = tt

  -- mapping macros give values of values
  pub reads_within : ReadsWithin limits block_read
  reads_within block defs id old d cs l c h o =
      read_end_within (exec_block (block_context defs id) block [] d (begun (content_state old) cs)) (block_out block defs id [] d (begun (content_state old) cs) l c h (no_names limits) (content_found old o))

  pub writes_within : WritesWithin limits block_write
  writes_within block defs id old v d cs l c h o w =
      write_end_within (exec_block (block_context defs id) block ((value_name, Some v) ∷ []) d (begun (content_state old) cs))
      (block_out block defs id ((value_name, Some v) ∷ []) d (begun (content_state old) cs) l c h (named_more limits value_name (Some v) [] (some_within limits v w) (no_names limits)) (content_found old o))

  -- ---- the end of a section

  -- each label is within the limits, or what `pc` has at the end is
  abbrev pub PlacesWithin : Vars → Type 0
  PlacesWithin t = ((x : Name) → IsTrue (limits.text x)) ⊎ ((p : Name × Data) → IsAmong p t → same_name p.0 pc ≡ true → IsWithin limits p.1)

  module _ (k : Context) (within : ContextWithin limits k) where
    put : (b : Bool) (old v : Data) → IsWithin limits old → IsWithin limits v → Within limits (value_put b k.id (Some old) (Some v))
    put true old v h c = some_within limits v c
    put false old v h c = part_within limits k.id (Some old) (Some v) (some_within limits old h) (some_within limits v c)

    -- a variable other than `pc`
    closed_within : (l x : Name) (ch : Vars) (old : Data) → same_name x pc ≡ false → IsWithin limits old → FoundWithin limits ch → Within limits (closed_value k l ch x old)
    closed_within l x ch old apart h f =
        subst (λ b. Within limits (if b then put_part k.id (Some old) (Some (string l)) else on (Some old) (find x ch) (λ v. value_put (is_among x k.globals) k.id (Some old) (Some v)))) (sym apart) (go (find x ch) (f x))
      where
        go : (o : Option Data) → Within limits o → Within limits (on (Some old) o (λ v. value_put (is_among x k.globals) k.id (Some old) (Some v)))
        go None c = some_within limits old h
        go (Some v) c = put (is_among x k.globals) old v h (c v refl)

    later_places : (p : Name × Data) (t : Vars) → PlacesWithin (p ∷ t) → PlacesWithin t
    later_places p t (inl any) = inl any
    later_places p t (inr given) = inr (λ q m. given q (inr m))

    closed_all : (l : Name) (ch s t : Vars) → AllWithin limits s → FoundWithin limits ch → PlacesWithin t → closed k l ch s ≡ Some t → AllWithin limits t
    closed_all l ch [] t h f places e = subst (AllWithin limits) (same_Some [] t e) tt
    closed_all l ch (p ∷ s) t h f places e =
        let b = both_parts (λ v t. Some ((p.0, v) ∷ t)) (closed_value k l ch p.0 p.1) (closed k l ch s) t e in
        let same : (p.0, b.0) ∷ b.1.0 ≡ t = same_Some ((p.0, b.0) ∷ b.1.0) t b.1.3 in
        let here : PlacesWithin ((p.0, b.0) ∷ b.1.0) = subst PlacesWithin (sym same) places in
        subst (AllWithin limits) same (first p.0 p.1 b.0 b.1.0 h.0 here b.1.1 (same_name p.0 pc) refl, closed_all l ch s b.1.0 h.1 f (later_places (p.0, b.0) b.1.0 here) b.1.2)
      where
        put_place : (x : Name) (old v : Data) → closed_value k l ch x old ≡ Some v → same_name x pc ≡ true → put_part k.id (Some old) (Some (string l)) ≡ Some v
        put_place x old v q c = subst (λ b. (if b then put_part k.id (Some old) (Some (string l)) else on (Some old) (find x ch) (λ v. value_put (is_among x k.globals) k.id (Some old) (Some v))) ≡ Some v) c q

        first : (x : Name) (old v : Data) (rest : Vars) → IsWithin limits old → PlacesWithin ((x, v) ∷ rest) → closed_value k l ch x old ≡ Some v → (c : Bool) → same_name x pc ≡ c → IsWithin limits v
        first x old v rest o (inl any) q true c = part_within limits k.id (Some old) (Some (string l)) (some_within limits old o) (some_within limits (string l) (any l)) v (put_place x old v q c)
        first x old v rest o (inr given) q true c = given (x, v) (inl refl) c
        first x old v rest o here q false c = closed_within l x ch old c o f v q

    end_within : (o : Out) (t : Vars) (prints : List Data) → AllWithin limits k.start → OutWithin limits o → PlacesWithin t → end_of k o ≡ Next t prints → AllWithin limits t
    end_within (Go run) t prints s h places e = absurd (cc)
    end_within (Jump l run) t prints s h places e = go (closed k l run.changes k.start) refl e
      where
        shallow : (b : Bool) (u : Vars) → (PlacesWithin u → AllWithin limits u) → (if b then Next u run.prints else Stuck NoValue) ≡ Next t prints → AllWithin limits t
        shallow true u a q = let same = next_is u t run.prints prints q in subst (AllWithin limits) same (a (subst PlacesWithin (sym same) places))
          where
            next_is : (u t : Vars) (a b : List Data) → Next u a ≡ Next t b → u ≡ t
            next_is u t a b q = cc
        shallow false u a q = absurd (cc)

        go : (o : Option Vars) → closed k l run.changes k.start ≡ o → on (Stuck NoValue) o (if_shallow run.prints) ≡ Next t prints → AllWithin limits t
        go None g q = absurd (cc)
        go (Some u) g q = shallow (is_shallow u) u (λ given. closed_all l run.changes k.start u s h given g) q
    end_within (Yielded v run) t prints s h places e = absurd (cc)
    end_within (Stop kind run) t prints s h places e = absurd (cc)

    -- a section from such values ends in such values, where those of `pc` are such
    pub section_within : (c : Code) (d : Words) (t : Vars) (prints : List Data) → AllWithin limits k.start → CodeWithin limits c → PlacesWithin t → (section k c d).end ≡ Next t prints → AllWithin limits t
    section_within c d t prints s l places e =
        end_within (exec k c [] d (begun [] [])) t prints s (code_within limits block_read block_write reads_within writes_within k within c [] d (begun [] []) l (no_names limits) nothing_found) places e
