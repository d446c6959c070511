-- Instructions in memory, as the steps that they are.
use Rattle.std.specs.Prelude.{List, map}
use Rattle.pgo_base.specs.Lookup.{Name}
use Rattle.pgo_code.specs.Steps as steps
use Rattle.pgo_code.specs.declared.instruction.Content.{Content}
use Rattle.pgo_code.specs.declared.instruction.Evaluation.{Evaluation}
use Rattle.pgo_code.specs.declared.instruction.Instruction.{Instruction}
use Rattle.pgo_code.specs.declared.instruction.Instruction.TheVariants as instructions
use Rattle.pgo_code.specs.declared.instruction.Target.{Target}
use Rattle.pgo_code.specs.declared.instruction.Target.TheVariants as targets
use Rattle.pgo_code.specs.declared.instruction.Unmapped.{Unmapped}
use Rattle.pgo_code.specs.declared.program.Section.{Section}
use Rattle.pgo_rewrite.specs.Views.{mapped_view}

abbrev pub unmapped_view : Unmapped → steps.Unmapped
unmapped_view u = (u.name, u.resource)

abbrev pub evaluation_view : Evaluation → steps.Evaluation
evaluation_view e = record { expression = e.expression; reads = map unmapped_view e.reads.items }

abbrev pub target_view : Target → steps.Target
target_view (targets.Resource r) = steps.Resource r
target_view (targets.Own x) = steps.Own x

abbrev pub content_view : Content → steps.Content
content_view c = let m = mapped_view c.mapped in record { global = m.global; is_element = c.is_element; whole = c.whole; reads = m.reads; writes = m.writes }

abbrev pub step_of : Instruction → steps.Step
step_of (instructions.Bind w e) = steps.Bind w (evaluation_view e)
step_of (instructions.Pick w e) = steps.Pick w (evaluation_view e)
step_of instructions.Unbind = steps.Unbind
step_of (instructions.Assign t w) = steps.Assign (target_view t) w
step_of (instructions.Set t e) = steps.Set (target_view t) (evaluation_view e)
step_of (instructions.Await e) = steps.Await (evaluation_view e)
step_of (instructions.Assert e) = steps.Assert (evaluation_view e)
step_of (instructions.Print e) = steps.Print (evaluation_view e)
step_of (instructions.Branch e k) = steps.Branch (evaluation_view e) k
step_of (instructions.Choose ks) = steps.Choose ks.items
step_of (instructions.Jump k) = steps.Jump k
step_of (instructions.End l) = steps.End l
step_of (instructions.Read w c i) = steps.Read w (content_view c) i
step_of (instructions.Write c i w) = steps.Write (content_view c) i w
step_of instructions.Fail = steps.Fail

abbrev pub section_view : Section → Name × List steps.Step
section_view s = (s.label, map step_of s.instructions.items)
