mod LongerRuns
