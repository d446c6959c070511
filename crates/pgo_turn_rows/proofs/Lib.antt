mod AcceptedRuns
mod Fresh
