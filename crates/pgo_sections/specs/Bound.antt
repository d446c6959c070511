-- The names that an expression binds for its parts; and names bound one after another, below others.
pub use Rattle.pgo_base.specs.BoundNames.{let_names as names_of, binder_names as names_bound}
pub use Rattle.pgo_base.specs.BindingsView.{onto as below}
